-- `residual16::enough` meets its contract.
use Rattle.std.proofs.Common.{◌+◌, arith, leb-true}
use Rattle.residual16.proofs.Numbers.{never}
use Rattle.residual16.proofs.enough.Goals as goal

pub returns-then-weight-gt16383 : goal.returns-then-weight-gt16383
returns-then-weight-gt16383 c h = never h

pub weight-requires : goal.weight-requires
weight-requires c = let p = c.requires.2 (omega arith) in (c.requires.0, omega (arith, p.0, p.1))

pub overflow_sub-rest : goal.overflow_sub-rest
overflow_sub-rest c = (c.requires.2 (omega arith)).0

pub weight-requires-2 : goal.weight-requires-2
weight-requires-2 c = let p = c.requires.2 (omega arith) in (c.requires.1, omega (arith, p.1))

pub returns : goal.returns
returns c h = (
  omega arith,
  omega (arith, leb-true (c.weight.result + c.weight-2.result) c.most.result h, c.weight.ensures.0, c.weight-2.ensures.0, c.most.ensures),
)
