use Rattle.replay.proofs.parts.butterfly.Goals as goal

pub butterfly-requires : goal.butterfly-requires
butterfly-requires c = c.both_near.ensures c.if-both_near.true
