use mathlib.Core.Path.{◌≡◌, refl, ap₂, ◌∙◌}
use Prim.Native.Nat.{ℕ, ◌+◌, ◌*◌, ◌^◌}
use native.Mathlib.Omega.{arith}
use lib.Dec.{lit<}
use lib.IntN.{ℤ, pos, ◌+ℤ◌, ◌*ℤ◌}
use lib.ListN.{get_or}
use mir.Syntax.{w64}
use mir.Val.{to_z}
use Rattle.whole.proofs.Within.{within_zero, within_le}
use Rattle.whole.proofs.Signed.{Is, is_ok, is_rd, is_in, is_bd, add}
use Rattle.fwd_dct.proofs.Sums.{sum_none, sum_two}
use Rattle.fwd_dct.proofs.dot.Goals as goal

pub loop-p-init : goal.loop-p-init
loop-p-init c = (sum_none _, within_zero)

pub two_terms-s-requires : goal.two_terms-s-requires
two_terms-s-requires c =
    let p = c.requires in
    let l = c.loop-p in
    (omega arith, omega arith, p.2.each (2 * l.p) (omega arith), p.2.each (2 * l.p + 1) (omega arith))

pub overflow_add-s : goal.overflow_add-s
overflow_add-s c =
    let l = c.loop-p in
    let is : Is (l.p * 2 ^ 48) (to_z w64 l.s-bits) (to_z w64 l.s-bits) = record { eq = refl; bd = l.invariant.1 } in
    is_ok w64 (omega arith) (add is (is_in w64 (lit< tt) c.two_terms-s.ensures.1))

pub loop-p-preserved : goal.loop-p-preserved
loop-p-preserved c =
    let l = c.loop-p in
    let a = c.args in
    let is : Is (l.p * 2 ^ 48) (to_z w64 l.s-bits) (to_z w64 l.s-bits) = record { eq = refl; bd = l.invariant.1 } in
    let t = is_rd w64 (omega arith) (add is (is_in w64 (lit< tt) c.two_terms-s.ensures.1)) in
    let f : ℕ → ℤ = λ i. get_or a.x.now i (pos 0) *ℤ get_or a.basis.now (a.row + i) (pos 0) in
    let e : 2 * (l.p + 1) ≡ 2 * l.p + 2 = omega arith in (
      rw e (t.eq ∙ ap₂ (λ (u v : ℤ). u +ℤ v) l.invariant.0 c.two_terms-s.ensures.0 ∙ sum_two f (2 * l.p) (f (2 * l.p)) (f (2 * l.p + 1)) refl refl),
      within_le (omega arith) (is_bd t),
    )

pub returns : goal.returns
returns c =
    let l = c.loop-p in
    let e : c.args.pairs ≡ l.p = omega arith in
    rw e l.invariant.0
