use Rattle.replay.proofs.coder.quantize.Goals as goal

pub quantize-token-requires : goal.quantize-token-requires
quantize-token-requires c = c.quantizable.ensures c.if-quantizable.true
