use Rattle.replay.proofs.parts.hadamard.Goals as goal

pub hadamard-requires : goal.hadamard-requires
hadamard-requires c = c.both_near.ensures c.if-both_near.true
