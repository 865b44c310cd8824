use Rattle.replay.proofs.Tests.{never}
use Rattle.replay.proofs.parts.both_near.Goals as goal

pub returns-then-near : goal.returns-then-near
returns-then-near c h = let x = c.near.ensures c.if-near.true in let y = c.near-then-near.ensures h in (x.0, y.0, x.1, y.1)

pub returns : goal.returns
returns c h = never h
