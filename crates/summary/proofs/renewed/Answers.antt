use mathlib.Core.Path.{ap, ◌∙◌}
use mathlib.Core.Bool.{Bool}
use Prim.Native.Nat.{◌+◌, ◌*◌, ◌/◌, ◌≤◌, ◌<◌}
use native.Mathlib.Omega.{arith}
use lib.ListN.{length}
use Rattle.summary.specs.Replace.{with_bit, renewed}
use Rattle.summary.proofs.Places.{row_inside, row_below}
use Rattle.summary.proofs.renewed.Goals as goal
use Rattle.summary.proofs.renewed.Goals.{Start}

below : (s : Start) → s.args.place / s.args.n0 < s.args.n0
below s = row_below s.args.n0 s.args.place s.requires.0 s.requires.2

inside : (s : Start) → s.args.place / s.args.n0 * s.args.n0 + s.args.n0 ≤ length s.args.block.now
inside s = row_inside s.args.n0 (s.args.place / s.args.n0) (length s.args.block.now) (below s) s.requires.3

pub overflow_mul-row : goal.overflow_mul-row
overflow_mul-row c = omega (arith, inside c)

pub with_bit-requires : goal.with_bit-requires
with_bit-requires c = omega (arith, below c.before, c.requires.1)

pub returns : goal.returns
unfolding renewed
returns c =
    let bit : Bool → _ = λ b. with_bit c.args.summary (c.args.place / c.args.n0) b in
    c.with_bit.ensures ∙ ap bit c.any_live.ensures

pub any_live-requires : goal.any_live-requires
any_live-requires c = inside c
