use mathlib.Core.Path.{◌≡◌, ap, ap₂, ◌∙◌}
use Prim.Native.Nat.{ℕ, ◌+◌, ◌^◌}
use native.Mathlib.Omega.{arith}
use mir.Syntax.{w64}
use lib.IntN.{ℤ, pos, ◌+ℤ◌, ◌*ℤ◌}
use lib.ListN.{get_or}
use Rattle.whole.proofs.Signed.{loc, ◌⊕◌, ◌⊗◌, fits, value, within}
use Rattle.fwd_dct.proofs.two_terms.Goals as goal

pub overflow_add-result-2 : goal.overflow_add-result-2
overflow_add-result-2 c =
    let p = c.requires in
    fits w64 (loc p.2 ⊗ loc c.entry-a.ensures.1 ⊕ loc p.3 ⊗ loc c.entry-b.ensures.1) tt

pub returns : goal.returns
returns c =
    let p = c.requires in
    let a = c.args in
    let x = c.entry-a.ensures in
    let y = c.entry-b.ensures in
    let e = loc p.2 ⊗ loc x.1 ⊕ loc p.3 ⊗ loc y.1 in
    let q : a.row + a.i + 1 ≡ a.row + (a.i + 1) = omega arith in (
      value w64 e tt
          ∙ ap₂ (λ (u v : ℤ). get_or a.x.now a.i (pos 0) *ℤ u +ℤ get_or a.x.now (a.i + 1) (pos 0) *ℤ v) x.0 (y.0 ∙ ap (λ (j : ℕ). get_or a.basis.now j (pos 0)) q),
      within w64 (2 ^ 48) e tt tt,
    )
