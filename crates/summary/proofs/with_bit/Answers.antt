use native.Mathlib.Omega.{arith}
use Rattle.summary.proofs.Digits.{one_shl}
use Rattle.summary.proofs.Bit.{with_set, with_clear}
use Rattle.summary.proofs.with_bit.Goals as goal

pub returns-then-bit : goal.returns-then-bit
returns-then-bit c = rw (c.if-bit.true, one_shl c.args.i c.requires) (with_set c.args.summary c.args.i (omega arith) c.requires)

pub returns : goal.returns
returns c = rw (c.if-bit.false, one_shl c.args.i c.requires) (with_clear c.args.summary c.args.i (omega arith) c.requires)
