-- `tested::adst4` meets its contract.
use mathlib.Core.Path.{◌≡◌, sym, ap, ap₂, ◌∙◌, subst}
use lib.Dec.{lit<}
use Rattle.std.specs.Prelude.{is_ok as was_ok}
use lib.IntN.{ℤ, pos, ◌+ℤ◌, ◌-ℤ◌, ◌*ℤ◌}
use lib.ListN.{get_or}
use mir.Syntax.{w32}
use Rattle.whole.specs.Within.{Within}
use Rattle.whole.proofs.Signed.{C, loc, lit, ◌⊕◌, ◌⊖◌, ◌⊗◌, val, raw, rd, code, fits as room, within, value}
use Rattle.whole.proofs.Within.{back, within_sfits}
use Rattle.steps.specs.Step.{step, adst4}
use Rattle.narrow.specs.Inner.{fits}
use Rattle.narrow.proofs.Locals.{read, round_is}
use Rattle.tested.proofs.Four.{sum0, sum1, sum0_is, sum1_is, last_within, four_stops, four_told, same_four, adst0, adst1, adst2, adst3}
use Rattle.tested.proofs.Answers.{left, gone, stayed}
use Rattle.tested.proofs.adst4.Goals as goal
use Rattle.tested.proofs.adst4.Goals.{After-round14-y3, After-wide-d}

-- the code's expressions
module _ (c : After-wide-d) where
  a_is : c.wide-a.result ≡ get_or c.args.t.now 0 (pos 0)
  a_is = read c.wide-arg-1.given c.wide-a.ensures.0

  b_is : c.wide-b.result ≡ get_or c.args.t.now 1 (pos 0)
  b_is = read c.wide-arg-2-1.given c.wide-b.ensures.0

  c_is : c.wide-c.result ≡ get_or c.args.t.now 2 (pos 0)
  c_is = read c.wide-arg-3-1.given c.wide-c.ensures.0

  d_is : c.wide-d.result ≡ get_or c.args.t.now 3 (pos 0)
  d_is = read c.wide-arg-4-1.given c.wide-d.ensures.0

  abbrev a : C
  a = loc c.wide-a.ensures.1

  abbrev b : C
  b = loc c.wide-b.ensures.1

  abbrev c' : C
  c' = loc c.wide-c.ensures.1

  abbrev d : C
  d = loc c.wide-d.ensures.1

  abbrev u : C
  u = c' ⊕ d

  abbrev x0 : C
  x0 = lit (pos 5283) ⊗ (a ⊕ c') ⊕ lit (pos 9929) ⊗ u

  abbrev x1 : C
  x1 = lit (pos 9929) ⊗ (a ⊖ d) ⊖ lit (pos 5283) ⊗ u

  abbrev x2 : C
  x2 = lit (pos 13377) ⊗ (a ⊖ c' ⊕ d)

  abbrev x3 : C
  x3 = lit (pos 13377) ⊗ b

  -- the last sum as the code has it
  abbrev last_sum : ℤ
  last_sum = code w32 (x0 ⊕ x1) -ℤ code w32 x3

  last_is : last_sum ≡ sum0 (val a) (val b) (val c') (val d) +ℤ sum1 (val a) (val b) (val c') (val d) -ℤ val x3
  last_is = ap₂ (λ (y z : ℤ). y -ℤ z) (value w32 (x0 ⊕ x1) tt) (value w32 x3 tt)

  last : Within 2147475455 last_sum
  last =
      subst (Within 2147475455) (sym last_is)
      (last_within (val a) (val b) (val c') (val d) c.wide-a.ensures.1 c.wide-b.ensures.1 c.wide-c.ensures.1 c.wide-d.ensures.1)

  -- the four sums
  y0_is : code w32 (x0 ⊕ x3) ≡ pos 5283 *ℤ val a +ℤ pos 15212 *ℤ val c' +ℤ pos 9929 *ℤ val d +ℤ pos 13377 *ℤ val b
  y0_is = value w32 (x0 ⊕ x3) tt ∙ ap (λ (z : ℤ). z +ℤ pos 13377 *ℤ val b) (sum0_is (val a) (val b) (val c') (val d))

  y1_is : code w32 (x1 ⊕ x3) ≡ pos 9929 *ℤ val a -ℤ pos 5283 *ℤ val c' -ℤ pos 15212 *ℤ val d +ℤ pos 13377 *ℤ val b
  y1_is = value w32 (x1 ⊕ x3) tt ∙ ap (λ (z : ℤ). z +ℤ pos 13377 *ℤ val b) (sum1_is (val a) (val b) (val c') (val d))

  y3_is : rd w32 last_sum
      ≡ (pos 5283 *ℤ val a +ℤ pos 15212 *ℤ val c' +ℤ pos 9929 *ℤ val d) +ℤ (pos 9929 *ℤ val a -ℤ pos 5283 *ℤ val c' -ℤ pos 15212 *ℤ val d) -ℤ pos 13377 *ℤ val b
  y3_is =
      back w32 (lit< tt) last ∙ last_is
      ∙ ap₂ (λ (y z : ℤ). y +ℤ z -ℤ pos 13377 *ℤ val b) (sum0_is (val a) (val b) (val c') (val d)) (sum1_is (val a) (val b) (val c') (val d))

-- ---- rounded
module _ (q : After-round14-y3) where
  abbrev at : (ℤ → ℤ → ℤ → ℤ → ℤ) → ℤ
  at f = f (val (a q.before.before.before.before)) (val (b q.before.before.before.before)) (val (c' q.before.before.before.before)) (val (d q.before.before.before.before))

  e0 : rd w32 q.round14-y0.result ≡ at adst0
  e0 = round_is (raw w32 (x0 q.before.before.before.before ⊕ x3 q.before.before.before.before)) q.round14-y0.type_inv q.round14-y0.ensures (y0_is q.before.before.before.before)

  e1 : rd w32 q.round14-y1.result ≡ at adst1
  e1 = round_is (raw w32 (x1 q.before.before.before.before ⊕ x3 q.before.before.before.before)) q.round14-y1.type_inv q.round14-y1.ensures (y1_is q.before.before.before.before)

  e2 : rd w32 q.round14-y2.result ≡ at adst2
  e2 = round_is (raw w32 (x2 q.before.before.before.before)) q.round14-y2.type_inv q.round14-y2.ensures (value w32 (x2 q.before.before.before.before) tt)

  e3 : rd w32 q.round14-y3.result ≡ at adst3
  e3 = round_is (last_sum q.before.before.before.before) q.round14-y3.type_inv q.round14-y3.ensures (y3_is q.before.before.before.before)

  -- of the line's own numbers
  abbrev of : (ℤ → ℤ → ℤ → ℤ → ℤ) → ℤ
  of f = let t = q.args.t.now in f (get_or t 0 (pos 0)) (get_or t 1 (pos 0)) (get_or t 2 (pos 0)) (get_or t 3 (pos 0))

  same : (f : ℤ → ℤ → ℤ → ℤ → ℤ) → at f ≡ of f
  same f = same_four f (a_is q.before.before.before.before) (b_is q.before.before.before.before) (c_is q.before.before.before.before) (d_is q.before.before.before.before)

pub returns-in_err-put : goal.returns-in_err-put
unfolding fits step adst4
returns-in_err-put c =
    rw (gone c.from_residual.result c.from_residual.ensures.0) (four_stops c.args.t.now c.requires (of c.before.before.before.before.before adst0) (of c.before.before.before.before.before adst1) (of c.before.before.before.before.before adst2) (of c.before.before.before.before.before adst3) (rw (e0 c.before.before.before.before.before ∙ same c.before.before.before.before.before adst0, e1 c.before.before.before.before.before ∙ same c.before.before.before.before.before adst1) at c.put.ensures.0) (left c.in_err-put.was))

pub returns : goal.returns
unfolding fits step adst4
returns c =
    let f0 = e0 c.before.before.before.before.before.before ∙ same c.before.before.before.before.before.before adst0 in
    let f1 = e1 c.before.before.before.before.before.before ∙ same c.before.before.before.before.before.before adst1 in
    let f2 = e2 c.before.before.before.before.before.before ∙ same c.before.before.before.before.before.before adst2 in
    let f3 = e3 c.before.before.before.before.before.before ∙ same c.before.before.before.before.before.before adst3 in
    four_told c.args.t.now c.requires (of c.before.before.before.before.before.before adst0) (of c.before.before.before.before.before.before adst1) (of c.before.before.before.before.before.before adst2) (of c.before.before.before.before.before.before adst3) (rw (f0, f1) at c.put.ensures.0) (stayed c.in_ok-put.was)
    (rw (f0, f1) at (c.put.ensures.1 (ap was_ok c.in_ok-put.was))) (rw (f2, f3) at c.put-2.ensures.0, λ k. rw (f2, f3) at (c.put-2.ensures.1 k))

pub overflow_add-u : goal.overflow_add-u
overflow_add-u c = room w32 (u c) tt

pub overflow_add-x0 : goal.overflow_add-x0
overflow_add-x0 c = room w32 (a c ⊕ c' c) tt

pub overflow_mul-x0 : goal.overflow_mul-x0
overflow_mul-x0 c = room w32 (lit (pos 5283) ⊗ (a c ⊕ c' c)) tt

pub overflow_mul-x0-2 : goal.overflow_mul-x0-2
overflow_mul-x0-2 c = room w32 (lit (pos 9929) ⊗ u c) tt

pub overflow_add-x0-2 : goal.overflow_add-x0-2
overflow_add-x0-2 c = room w32 (x0 c) tt

pub overflow_sub-x1 : goal.overflow_sub-x1
overflow_sub-x1 c = room w32 (a c ⊖ d c) tt

pub overflow_mul-x1 : goal.overflow_mul-x1
overflow_mul-x1 c = room w32 (lit (pos 9929) ⊗ (a c ⊖ d c)) tt

pub overflow_mul-x1-2 : goal.overflow_mul-x1-2
overflow_mul-x1-2 c = room w32 (lit (pos 5283) ⊗ u c) tt

pub overflow_sub-x1-2 : goal.overflow_sub-x1-2
overflow_sub-x1-2 c = room w32 (x1 c) tt

pub overflow_sub-x2 : goal.overflow_sub-x2
overflow_sub-x2 c = room w32 (a c ⊖ c' c) tt

pub overflow_add-x2 : goal.overflow_add-x2
overflow_add-x2 c = room w32 (a c ⊖ c' c ⊕ d c) tt

pub overflow_mul-x2 : goal.overflow_mul-x2
overflow_mul-x2 c = room w32 (x2 c) tt

pub overflow_mul-x3 : goal.overflow_mul-x3
overflow_mul-x3 c = room w32 (x3 c) tt

pub overflow_add-x0-3 : goal.overflow_add-x0-3
overflow_add-x0-3 c = room w32 (x0 c ⊕ x3 c) tt

pub round14-y0-requires : goal.round14-y0-requires
round14-y0-requires c = within w32 2147475455 (x0 c ⊕ x3 c) tt tt

pub overflow_add-x1 : goal.overflow_add-x1
overflow_add-x1 c = room w32 (x1 c.before ⊕ x3 c.before) tt

pub round14-y1-requires : goal.round14-y1-requires
round14-y1-requires c = within w32 2147475455 (x1 c.before ⊕ x3 c.before) tt tt

pub round14-y2-requires : goal.round14-y2-requires
round14-y2-requires c = within w32 2147475455 (x2 c.before.before) tt tt

pub overflow_add-x0-4 : goal.overflow_add-x0-4
overflow_add-x0-4 c = room w32 (x0 c.before.before.before ⊕ x1 c.before.before.before) tt

pub overflow_sub-x0 : goal.overflow_sub-x0
overflow_sub-x0 c = within_sfits (lit< tt) (last c.before.before.before)

pub round14-y3-requires : goal.round14-y3-requires
round14-y3-requires c = rw (back w32 (lit< tt) (last c.before.before.before)) (last c.before.before.before)
