-- `flat_adst::iadst_fast4` meets its contract.
use mathlib.Core.Path.{refl, sym, ap, ap₂, ◌∙◌, subst}
use Prim.Native.Nat.{◌^◌}
use lib.Dec.{lit≤}
use lib.IntN.{ℤ, pos, ◌+ℤ◌, ◌-ℤ◌}
use mir.Syntax.{w64}
use Rattle.whole.specs.Round.{Round2}
use Rattle.whole.proofs.Signed.{C, loc, lit, ◌⊕◌, ◌⊖◌, ◌⊗◌, val, code, rd_ok, fits, within, value}
use Rattle.whole.specs.Within.{Within}
use Rattle.steps.specs.Step.{adst4}
use Rattle.steps.specs.Inner.{FourWithin}
use Rattle.adst.proofs.Adst.{four_is}
use Rattle.flat_adst.proofs.Four.{sum0_is, sum1_is, last_within, four_within}
use Rattle.flat_adst.proofs.iadst_fast4.Goals as goal
use Rattle.flat_adst.proofs.iadst_fast4.Goals.{Start}

-- the code's expressions
module _ (s : Start) where
  four : FourWithin (2 ^ 46) s.args.t.now
  four = four_within s.args.t.now s.requires

  abbrev a : C
  a = loc four.0

  abbrev b : C
  b = loc four.1

  abbrev c' : C
  c' = loc four.2

  abbrev d : C
  d = loc four.3

  abbrev u : C
  u = c' ⊕ d

  abbrev x0 : C
  x0 = lit (pos 5283) ⊗ (a ⊕ c') ⊕ lit (pos 9929) ⊗ u

  abbrev x1 : C
  x1 = lit (pos 9929) ⊗ (a ⊖ d) ⊖ lit (pos 5283) ⊗ u

  abbrev x2 : C
  x2 = lit (pos 13377) ⊗ (a ⊖ c' ⊕ d)

  abbrev x3 : C
  x3 = lit (pos 13377) ⊗ b

  last : Within (2 ^ 62) (code w64 (x0 ⊕ x1 ⊖ x3))
  last = subst (Within (2 ^ 62)) (sym (value w64 (x0 ⊕ x1 ⊖ x3) tt)) (last_within (val a) (val b) (val c') (val d) four.0 four.1 four.2 four.3)

pub returns : goal.returns
unfolding adst4
returns c =
    let r1 = c.round2 in
    let r2 = c.round2-2 in
    let r3 = c.round2-3 in
    let r4 = c.round2-4 in
    let y0 = sum0_is (val (a c.before.before.before.before.before.before.before.before)) (val (b c.before.before.before.before.before.before.before.before)) (val (c' c.before.before.before.before.before.before.before.before)) (val (d c.before.before.before.before.before.before.before.before)) in
    let y1 = sum1_is (val (a c.before.before.before.before.before.before.before.before)) (val (b c.before.before.before.before.before.before.before.before)) (val (c' c.before.before.before.before.before.before.before.before)) (val (d c.before.before.before.before.before.before.before.before)) in
    let e1 = rd_ok w64 r1.type_inv ∙ r1.ensures ∙ ap (λ (z : ℤ). Round2 z 14) (value w64 (x0 c.before.before.before.before.before.before.before.before ⊕ x3 c.before.before.before.before.before.before.before.before) tt ∙ ap (λ (y : ℤ). y +ℤ val (x3 c.before.before.before.before.before.before.before.before)) y0) in
    let e2 = rd_ok w64 r2.type_inv ∙ r2.ensures ∙ ap (λ (z : ℤ). Round2 z 14) (value w64 (x1 c.before.before.before.before.before.before.before.before ⊕ x3 c.before.before.before.before.before.before.before.before) tt ∙ ap (λ (y : ℤ). y +ℤ val (x3 c.before.before.before.before.before.before.before.before)) y1) in
    let e3 = rd_ok w64 r3.type_inv ∙ r3.ensures ∙ ap (λ (z : ℤ). Round2 z 14) (value w64 (x2 c.before.before.before.before.before.before.before.before) tt) in
    let e4 = rd_ok w64 r4.type_inv ∙ r4.ensures ∙ ap (λ (z : ℤ). Round2 z 14) (value w64 (x0 c.before.before.before.before.before.before.before.before ⊕ x1 c.before.before.before.before.before.before.before.before ⊖ x3 c.before.before.before.before.before.before.before.before) tt ∙ ap₂ (λ (y z : ℤ). y +ℤ z -ℤ val (x3 c.before.before.before.before.before.before.before.before)) y0 y1) in
    rw (e1, e2, e3, e4, ← four_is 2 c.args.t.now refl)

pub overflow_add-u : goal.overflow_add-u
overflow_add-u c = fits w64 (u c.before.before.before.before) tt

pub overflow_add-x0 : goal.overflow_add-x0
overflow_add-x0 c = fits w64 (a c.before.before.before.before ⊕ c' c.before.before.before.before) tt

pub overflow_mul-x0 : goal.overflow_mul-x0
overflow_mul-x0 c = fits w64 (lit (pos 5283) ⊗ (a c.before.before.before.before ⊕ c' c.before.before.before.before)) tt

pub overflow_mul-x0-2 : goal.overflow_mul-x0-2
overflow_mul-x0-2 c = fits w64 (lit (pos 9929) ⊗ u c.before.before.before.before) tt

pub overflow_add-x0-2 : goal.overflow_add-x0-2
overflow_add-x0-2 c = fits w64 (x0 c.before.before.before.before) tt

pub overflow_sub-x1 : goal.overflow_sub-x1
overflow_sub-x1 c = fits w64 (a c.before.before.before.before ⊖ d c.before.before.before.before) tt

pub overflow_mul-x1 : goal.overflow_mul-x1
overflow_mul-x1 c = fits w64 (lit (pos 9929) ⊗ (a c.before.before.before.before ⊖ d c.before.before.before.before)) tt

pub overflow_mul-x1-2 : goal.overflow_mul-x1-2
overflow_mul-x1-2 c = fits w64 (lit (pos 5283) ⊗ u c.before.before.before.before) tt

pub overflow_sub-x1-2 : goal.overflow_sub-x1-2
overflow_sub-x1-2 c = fits w64 (x1 c.before.before.before.before) tt

pub overflow_sub-x2 : goal.overflow_sub-x2
overflow_sub-x2 c = fits w64 (a c.before.before.before.before ⊖ c' c.before.before.before.before) tt

pub overflow_add-x2 : goal.overflow_add-x2
overflow_add-x2 c = fits w64 (a c.before.before.before.before ⊖ c' c.before.before.before.before ⊕ d c.before.before.before.before) tt

pub overflow_mul-x2 : goal.overflow_mul-x2
overflow_mul-x2 c = fits w64 (x2 c.before.before.before.before) tt

pub overflow_mul-x3 : goal.overflow_mul-x3
overflow_mul-x3 c = fits w64 (x3 c.before.before.before.before) tt

pub overflow_add-x0-3 : goal.overflow_add-x0-3
overflow_add-x0-3 c = fits w64 (x0 c.before.before.before.before ⊕ x3 c.before.before.before.before) tt

pub round2-requires : goal.round2-requires
round2-requires c = (lit≤ tt, lit≤ tt, within w64 (2 ^ 62) (x0 c.before.before.before.before ⊕ x3 c.before.before.before.before) tt tt)

pub overflow_add-x1 : goal.overflow_add-x1
overflow_add-x1 c = fits w64 (x1 c.before.before.before.before.before ⊕ x3 c.before.before.before.before.before) tt

pub round2-requires-2 : goal.round2-requires-2
round2-requires-2 c = (lit≤ tt, lit≤ tt, within w64 (2 ^ 62) (x1 c.before.before.before.before.before ⊕ x3 c.before.before.before.before.before) tt tt)

pub round2-requires-3 : goal.round2-requires-3
round2-requires-3 c = (lit≤ tt, lit≤ tt, within w64 (2 ^ 62) (x2 c.before.before.before.before.before.before) tt tt)

pub overflow_add-x0-4 : goal.overflow_add-x0-4
overflow_add-x0-4 c = fits w64 (x0 c.before.before.before.before.before.before.before ⊕ x1 c.before.before.before.before.before.before.before) tt

pub overflow_sub-x0 : goal.overflow_sub-x0
overflow_sub-x0 c = fits w64 (x0 c.before.before.before.before.before.before.before ⊕ x1 c.before.before.before.before.before.before.before ⊖ x3 c.before.before.before.before.before.before.before) tt

pub round2-requires-4 : goal.round2-requires-4
round2-requires-4 c = (lit≤ tt, lit≤ tt, last c.before.before.before.before.before.before.before)
