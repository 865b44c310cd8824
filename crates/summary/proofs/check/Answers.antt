use mathlib.Core.Path.{◌≡◌, sym, ap, ◌∙◌}
use mathlib.Core.Bool.{false, not, ◌||◌}
use Prim.Native.Nat.{◌+◌, ◌≤◌}
use native.Mathlib.Omega.{arith}
use borrow.Author.Tests.{eq-eqb, ne_eqb, ltb-false, lt-ltb, le-ltb}
use lib.Dec.{eqb, ltb}
use lib.IntN.{nat_abs}
use lib.ListN.{length}
use mir.Syntax.{w64}
use mir.ValLaws.{to_z-of_z}
use Rattle.answers.specs.Bad.{bad_depth, bad_size, bad_quantizer}
use Rattle.answers.specs.Limits.{codeable}
use Rattle.answers.specs.Sizes.{area}
use Rattle.answers.proofs.Passed.{codeable_most}
use Rattle.summary.specs.Replace.{answer_of, coefficient}
use Rattle.summary.proofs.check.Goals as goal
use Rattle.summary.proofs.check.Goals.{After-area-count, Else-bad_depth, Else-bad_quantizers, Else-bad_size, Else-bad_token, Else-block-count, Else-count-place}

-- what each passed test says
no1 : (c : Else-bad_depth) → bad_depth c.args.bit_depth ≡ false
no1 c = sym c.bad_depth.ensures ∙ c.if-bad_depth.false

no2 : (c : Else-bad_size) → bad_size c.args.tx_sz ≡ false
no2 c = sym c.bad_size.ensures ∙ c.if-bad_size.false

no3 : (c : Else-bad_quantizers) → let a = c.args in bad_quantizer a.dc_quant.0 || bad_quantizer a.ac_quant.0 ≡ false
no3 c = sym c.bad_quantizers.ensures ∙ c.if-bad_quantizers.false

small : (c : Else-bad_quantizers) → c.args.tx_sz ≤ 3
small c = ltb-false 3 _ (no2 c.before.before)

-- the count of numbers
counted : (c : After-area-count) → c.area-count.result ≡ area (c.args.tx_sz + 2)
counted c = c.area-count.ensures.0

no4 : (c : Else-block-count) → let a = c.args in not (eqb (length a.block.now) (area (a.tx_sz + 2))) ≡ false
no4 c = ap not (eq-eqb _ _ (c.if-block-count.false ∙ counted c.before))

no5 : (c : Else-count-place) → let a = c.args in not (ltb a.place (area (a.tx_sz + 2))) ≡ false
no5 c = ap not (lt-ltb _ _ (rw (counted c.before.before) at c.if-count-place.false))

no6 : (c : Else-bad_token) → let a = c.args in ltb (codeable a.bit_depth) (nat_abs a.token) ≡ false
no6 c =
    rw (to_z-of_z w64 c.args.token c.ranges.token) at (sym c.bad_token.ensures ∙ c.if-bad_token.false)

pub returns-then-bad_depth : goal.returns-then-bad_depth
unfolding answer_of
returns-then-bad_depth c = rw (sym c.bad_depth.ensures ∙ c.if-bad_depth.true)

pub returns-then-bad_size : goal.returns-then-bad_size
unfolding answer_of
returns-then-bad_size c = rw (no1 c.before.before, sym c.bad_size.ensures ∙ c.if-bad_size.true)

pub returns-then-bad_quantizers : goal.returns-then-bad_quantizers
unfolding answer_of
returns-then-bad_quantizers c =
    rw (no1 c.before.before.before.before, no2 c.before.before, sym c.bad_quantizers.ensures ∙ c.if-bad_quantizers.true)

pub returns-then-block-count : goal.returns-then-block-count
unfolding answer_of
returns-then-block-count c =
    rw (no1 c.before.before.before.before.before.before, no2 c.before.before.before.before, no3 c.before.before, ap not (ne_eqb _ _ (rw (counted c.before) at c.if-block-count.true)))

pub returns-then-count-place : goal.returns-then-count-place
unfolding answer_of
returns-then-count-place c =
    rw (no1 c.before.before.before.before.before.before.before, no2 c.before.before.before.before.before, no3 c.before.before.before, no4 c.before, ap not (le-ltb _ _ (rw (counted c.before.before) at c.if-count-place.true)))

pub returns-then-bad_token : goal.returns-then-bad_token
unfolding answer_of
returns-then-bad_token c =
    rw (no1 c.before.before.before.before.before.before.before.before.before, no2 c.before.before.before.before.before.before.before, no3 c.before.before.before.before.before, no4 c.before.before.before, no5 c.before.before, rw (to_z-of_z w64 c.args.token c.ranges.token) at (sym c.bad_token.ensures ∙ c.if-bad_token.true))

pub bad_coefficient-requires : goal.bad_coefficient-requires
bad_coefficient-requires c =
    rw (to_z-of_z w64 c.args.token c.ranges.token)
    (no3 c.before.before.before.before.before, omega (arith, ltb-false (codeable c.args.bit_depth) (nat_abs c.args.token) (no6 c), codeable_most c.args.bit_depth))

pub returns-then-bad_coefficient : goal.returns-then-bad_coefficient
unfolding answer_of coefficient
returns-then-bad_coefficient c =
    rw (no1 c.before.before.before.before.before.before.before.before.before.before.before, no2 c.before.before.before.before.before.before.before.before.before, no3 c.before.before.before.before.before.before.before, no4 c.before.before.before.before.before, no5 c.before.before.before.before, no6 c.before.before, rw (to_z-of_z w64 c.args.token c.ranges.token) at (sym c.bad_coefficient.ensures ∙ c.if-bad_coefficient.true))

pub returns : goal.returns
unfolding answer_of coefficient
returns c =
    rw (no1 c.before.before.before.before.before.before.before.before.before.before.before, no2 c.before.before.before.before.before.before.before.before.before, no3 c.before.before.before.before.before.before.before, no4 c.before.before.before.before.before, no5 c.before.before.before.before, no6 c.before.before, rw (to_z-of_z w64 c.args.token c.ranges.token) at (sym c.bad_coefficient.ensures ∙ c.if-bad_coefficient.false))

pub overflow_add-tx_sz : goal.overflow_add-tx_sz
overflow_add-tx_sz c = omega (arith, small c)

pub area-count-requires : goal.area-count-requires
area-count-requires c = (omega arith, omega (arith, small c))
