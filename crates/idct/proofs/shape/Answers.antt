use mathlib.Core.Path.{◌≡◌, sym, ◌∙◌}
use mathlib.Core.Bool.{false}
use Prim.Native.Nat.{◌-◌}
use native.Mathlib.Nat.{mul-le-mul}
use native.Mathlib.Omega.{arith}
use borrow.Author.Tests.{lt-ltb, le-ltb}
use Rattle.answers.specs.Bad.{bad_side, bad_lossless, bad_tx_type}
use Rattle.answers.proofs.Passed.{side_range}
use Rattle.idct.specs.Inner.{shape_of}
use Rattle.idct.proofs.shape.Goals as goal
use Rattle.idct.proofs.shape.Goals.{Else-bad_lossless, Else-bad_side, Else-bad_tx_type}

-- what each passed test says
no1 : (c : Else-bad_side) → bad_side c.args.n ≡ false
no1 c = sym c.bad_side.ensures ∙ c.if-bad_side.false

no2 : (c : Else-bad_lossless) → let a = c.args in bad_lossless a.lossless (a.n - 2) ≡ false
no2 c = sym c.bad_lossless.ensures ∙ c.if-bad_lossless.false

no3 : (c : Else-bad_tx_type) → let a = c.args in bad_tx_type a.lossless (a.n - 2) a.tx_type ≡ false
no3 c = sym c.bad_tx_type.ensures ∙ c.if-bad_tx_type.false

pub returns-then-bad_side : goal.returns-then-bad_side
unfolding shape_of
returns-then-bad_side c = rw (sym c.bad_side.ensures ∙ c.if-bad_side.true)

pub returns-then-bad_lossless : goal.returns-then-bad_lossless
unfolding shape_of
returns-then-bad_lossless c = rw (no1 c.before.before, sym c.bad_lossless.ensures ∙ c.if-bad_lossless.true)

pub returns-then-bad_tx_type : goal.returns-then-bad_tx_type
unfolding shape_of
returns-then-bad_tx_type c =
    rw (no1 c.before.before.before.before, no2 c.before.before, sym c.bad_tx_type.ensures ∙ c.if-bad_tx_type.true)

pub returns-then-count-n0 : goal.returns-then-count-n0
unfolding shape_of
returns-then-count-n0 c =
    rw (no1 c.before.before.before.before.before.before, no2 c.before.before.before.before, no3 c.before.before, lt-ltb _ _ (rw c.side-n0.ensures.0 at c.if-count-n0.true))

pub returns : goal.returns
unfolding shape_of
returns c =
    rw (no1 c.before.before.before.before.before.before, no2 c.before.before.before.before, no3 c.before.before, le-ltb _ _ (rw c.side-n0.ensures.0 at c.if-count-n0.false))

pub overflow_sub-n : goal.overflow_sub-n
overflow_sub-n c = omega (arith, side_range _ (no1 c))

pub overflow_sub-n-2 : goal.overflow_sub-n-2
overflow_sub-n-2 c = omega (arith, side_range _ (no1 c.before.before))

pub side-n0-requires : goal.side-n0-requires
side-n0-requires c = side_range _ (no1 c.before.before.before.before)

pub overflow_mul-n0 : goal.overflow_mul-n0
overflow_mul-n0 c = omega (arith, mul-le-mul c.side-n0.ensures.1 c.side-n0.ensures.1)
