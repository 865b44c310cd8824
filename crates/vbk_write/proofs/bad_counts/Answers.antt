use mathlib.Core.Path.{◌≡◌, sym, ap, ◌∙◌}
use Prim.Native.Nat.{◌+◌, ◌≤◌}
use native.Mathlib.Omega.{arith}
use borrow.Author.Rules.{rules}
use borrow.Author.Tests.{eq-eqb}
use lib.ListN.{length, get_or}
use Rattle.whole.proofs.Tests.{any_none, any_more}
use Rattle.answers.specs.Sizes.{area}
use Rattle.vbk_write.specs.Lent.{tokens_before}
use Rattle.vbk_write.proofs.Counts.{none_above, before_next, wrong_count, too_many, right_counts}
use Rattle.vbk_write.proofs.bad_counts.Goals as goal
use Rattle.vbk_write.proofs.bad_counts.Goals.{After-area, After-count32-count}

pub loop-i-init : goal.loop-i-init
unfolding tokens_before
loop-i-init c = (search rules, any_none _, search rules, search rules)

pub bounds-sizes-i : goal.bounds-sizes-i
bounds-sizes-i c = omega (arith, c.loop-i-test.true, c.requires.0)

-- the size is not above 3
small : (c : After-count32-count) → c.from-size.result ≤ 3
small c =
    let p = c.requires in
    let k = none_above 3 c.args.sizes.now c.loop-i.i p.1 (omega (arith, c.loop-i-test.true, p.0)) in
    omega (arith, k, c.from-size.ensures)

pub area-requires : goal.area-requires
area-requires c = (search rules, omega (arith, small c))

-- what the turn compares
count_is : (c : After-area) → c.area.result ≡ area (get_or c.args.sizes.now c.loop-i.i 0 + 2)
count_is c = c.area.ensures.0 ∙ ap (λ k. area (k + 2)) c.from-size.ensures

pub returns-then-count-area : goal.returns-then-count-area
returns-then-count-area c =
    let a = c.args in
    wrong_count a.sizes.now a.counts.now a.tokens c.loop-i.i c.loop-i-test.true
    (λ e. c.if-count-area.true (c.count32-count.ensures ∙ e ∙ sym (count_is (goal.at.returns-then-count-area c).After-area)))

pub overflow_sub-tokens : goal.overflow_sub-tokens
overflow_sub-tokens c = c.loop-i.invariant.3

pub returns-then-tokens-total : goal.returns-then-tokens-total
returns-then-tokens-total c =
    let a = c.args in
    let l = c.loop-i in
    too_many a.sizes.now a.counts.now a.tokens l.i c.loop-i-test.true
    (omega (arith, c.if-tokens-total.true, l.invariant.2, l.invariant.3, c.count32-count.ensures))

pub overflow_add-total : goal.overflow_add-total
overflow_add-total c = omega (arith, c.if-tokens-total.false, c.loop-i.invariant.3, c.ranges.tokens.fits)

pub loop-i-preserved : goal.loop-i-preserved
loop-i-preserved c =
    let a = c.args in
    let l = c.loop-i in
    let n = c.count32-count in (
      search rules,
      any_more _ _ l.invariant.1 (rw (eq-eqb (get_or a.counts.now l.i 0) (area (get_or a.sizes.now l.i 0 + 2)) (sym n.ensures ∙ c.if-count-area.false ∙ count_is (goal.at.loop-i-preserved c).After-area))),
      before_next a.counts.now l.i l.invariant.2 n.ensures,
      omega (arith, c.if-tokens-total.false, l.invariant.3),
    )

pub returns : goal.returns
returns c =
    let a = c.args in
    let l = c.loop-i in
    let e : l.i ≡ length a.counts.now = omega arith in
    right_counts a.sizes.now a.counts.now a.tokens l.total (rw e at l.invariant.1) (rw e at l.invariant.2)
