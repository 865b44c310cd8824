-- `adst::inverse_adst4` meets its contract.
use mathlib.Core.Path.{sym, ap, ◌∙◌, subst}
use mathlib.Core.List.{List}
use Prim.Native.Nat.{◌^◌}
use lib.Dec.{lit≤}
use lib.IntN.{ℤ, pos}
use mir.Syntax.{w64}
use Rattle.whole.specs.Round.{Round2}
use Rattle.whole.proofs.Signed.{C, loc, lit, ◌⊕◌, ◌⊖◌, ◌⊗◌, val, code, rd_ok, fits, within, value}
use Rattle.whole.specs.Within.{Within}
use Rattle.whole.proofs.Within.{within_le}
use Rattle.steps.specs.Step.{adst4}
use Rattle.steps.specs.Inner.{FourWithin}
use Rattle.adst.proofs.Four.{sum_within}
use Rattle.adst.proofs.inverse_adst4.Goals as goal

-- the code's expressions, of numbers within 2^46
module _ (t : List ℤ) (h : FourWithin (2 ^ 46) t) where
  abbrev a : C
  a = loc h.0

  abbrev b : C
  b = loc h.1

  abbrev c' : C
  c' = loc h.2

  abbrev d : C
  d = loc h.3

  abbrev x0 : C
  x0 = lit (pos 5283) ⊗ a ⊕ lit (pos 15212) ⊗ c' ⊕ lit (pos 9929) ⊗ d

  abbrev x1 : C
  x1 = lit (pos 9929) ⊗ a ⊖ lit (pos 5283) ⊗ c' ⊖ lit (pos 15212) ⊗ d

  abbrev x2 : C
  x2 = lit (pos 13377) ⊗ (a ⊖ c' ⊕ d)

  abbrev x3 : C
  x3 = lit (pos 13377) ⊗ b

  last_within : Within (2 ^ 62) (code w64 (x0 ⊕ x1 ⊖ x3))
  last_within =
      subst (Within (2 ^ 62)) (sym (value w64 (x0 ⊕ x1 ⊖ x3) tt)) (within_le (lit≤ tt) (sum_within (val a) (val b) (val c') (val d) h.0 h.1 h.2 h.3))

pub overflow_add-x0-3 : goal.overflow_add-x0-3
overflow_add-x0-3 c = let t = c.args.t.now in let h = c.requires in fits w64 (x0 t h ⊕ x3 t h) tt

pub round2-requires : goal.round2-requires
round2-requires c = let t = c.args.t.now in let h = c.requires in (lit≤ tt, lit≤ tt, within w64 (2 ^ 62) (x0 t h ⊕ x3 t h) tt tt)

pub overflow_add-x1 : goal.overflow_add-x1
overflow_add-x1 c = let t = c.args.t.now in let h = c.requires in fits w64 (x1 t h ⊕ x3 t h) tt

pub round2-requires-2 : goal.round2-requires-2
round2-requires-2 c = let t = c.args.t.now in let h = c.requires in (lit≤ tt, lit≤ tt, within w64 (2 ^ 62) (x1 t h ⊕ x3 t h) tt tt)

pub round2-requires-3 : goal.round2-requires-3
round2-requires-3 c = let t = c.args.t.now in let h = c.requires in (lit≤ tt, lit≤ tt, within w64 (2 ^ 62) (x2 t h) tt tt)

pub overflow_add-x0-4 : goal.overflow_add-x0-4
overflow_add-x0-4 c = let t = c.args.t.now in let h = c.requires in fits w64 (x0 t h ⊕ x1 t h) tt

pub overflow_sub-x0 : goal.overflow_sub-x0
overflow_sub-x0 c = let t = c.args.t.now in let h = c.requires in fits w64 (x0 t h ⊕ x1 t h ⊖ x3 t h) tt

pub round2-requires-4 : goal.round2-requires-4
round2-requires-4 c = let t = c.args.t.now in let h = c.requires in (lit≤ tt, lit≤ tt, last_within t h)

pub returns : goal.returns
unfolding adst4
returns c =
    let t = c.args.t.now in
    let h = c.requires in
    let r1 = c.round2 in
    let r2 = c.round2-2 in
    let r3 = c.round2-3 in
    let r4 = c.round2-4 in
    let e1 = rd_ok w64 r1.type_inv ∙ r1.ensures ∙ ap (λ (z : ℤ). Round2 z 14) (value w64 (x0 t h ⊕ x3 t h) tt) in
    let e2 = rd_ok w64 r2.type_inv ∙ r2.ensures ∙ ap (λ (z : ℤ). Round2 z 14) (value w64 (x1 t h ⊕ x3 t h) tt) in
    let e3 = rd_ok w64 r3.type_inv ∙ r3.ensures ∙ ap (λ (z : ℤ). Round2 z 14) (value w64 (x2 t h) tt) in
    let e4 = rd_ok w64 r4.type_inv ∙ r4.ensures ∙ ap (λ (z : ℤ). Round2 z 14) (value w64 (x0 t h ⊕ x1 t h ⊖ x3 t h) tt) in
    rw (e1, e2, e3, e4)
