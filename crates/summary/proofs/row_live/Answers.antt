use Prim.Native.Nat.{◌+◌, ◌*◌, ◌≤◌}
use native.Mathlib.Omega.{arith}
use lib.ListN.{length}
use Rattle.summary.proofs.Places.{row_inside}
use Rattle.summary.proofs.row_live.Goals as goal
use Rattle.summary.proofs.row_live.Goals.{Start}

-- the row is inside the list
inside : (s : Start) → s.args.i * s.args.n0 + s.args.n0 ≤ length s.args.block.now
inside s = row_inside s.args.n0 s.args.i (length s.args.block.now) s.requires.2 s.requires.3

pub any_live-requires : goal.any_live-requires
any_live-requires c = inside c.before

pub long_live-requires : goal.long_live-requires
long_live-requires c = (omega arith, inside c.before)

pub overflow_mul-i : goal.overflow_mul-i
overflow_mul-i c = omega (arith, inside c.before)

pub overflow_mul-i-2 : goal.overflow_mul-i-2
overflow_mul-i-2 c = omega (arith, inside c.before)
