use Rattle.replay.proofs.parts.sb.Goals as goal

pub sb-requires : goal.sb-requires
sb-requires c = c.both_near.ensures c.if-both_near.true
