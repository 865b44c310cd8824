use Rattle.replay.proofs.parts.sh.Goals as goal

pub sh-requires : goal.sh-requires
sh-requires c = c.both_near.ensures c.if-both_near.true
