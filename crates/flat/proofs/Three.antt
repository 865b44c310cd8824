-- A rotation by three products.
use mathlib.Core.Path.{◌≡◌, ◌∙◌}
use Prim.Native.Nat.{◌^◌, ◌<◌}
use native.Mathlib.Omega.{arith}
use lib.Dec.{lit≤, lit<}
use lib.IntN.{ℤ, ◌+ℤ◌, ◌-ℤ◌, ◌*ℤ◌}
use lib.Signed.{mag}
use mir.Syntax.{w32, w64}
use mir.Val.{SFits, hbits}
use mir.Facts.{to_z-of_z}
use Rattle.whole.proofs.Ring.{at, ◌⊕◌, ◌⊖◌, ◌⊗◌, ring}
use Rattle.whole.proofs.Signed.{rd, rd_ok}
use Rattle.whole.specs.Within.{Within}
use Rattle.whole.proofs.Within.{back, within_le, within_add, within_sub, within_mul}
use Rattle.primitives.specs.Cosine.{Cos64, Sin64}
use Rattle.primitives.specs.Rotations.{turn_x, turn_y}
use Rattle.primitives.proofs.Cosine.{cos_within, sin_within}

module _ (p q g : ℤ) where
  pub three_x : (p +ℤ q) *ℤ Cos64 g -ℤ q *ℤ (Cos64 g +ℤ Sin64 g) ≡ turn_x p q g
  unfolding turn_x
  three_x =
      let c = at (Cos64 g) in
      let s = at (Sin64 g) in
      ring ((at p ⊕ at q) ⊗ c ⊖ at q ⊗ (c ⊕ s)) (at p ⊗ c ⊖ at q ⊗ s) (omega arith)

  pub three_y : (p +ℤ q) *ℤ Cos64 g +ℤ p *ℤ (Sin64 g -ℤ Cos64 g) ≡ turn_y p q g
  unfolding turn_y
  three_y =
      let c = at (Cos64 g) in
      let s = at (Sin64 g) in
      ring ((at p ⊕ at q) ⊗ c ⊕ at p ⊗ (s ⊖ c)) (at p ⊗ s ⊕ at q ⊗ c) (omega arith)

-- how far the values reach
pub turn_x_within : {p q : ℤ} (g : ℤ) → Within (2 ^ 46) p → Within (2 ^ 46) q → Within (2 ^ 61) (turn_x p q g)
unfolding turn_x
turn_x_within g h k = within_le (lit≤ tt) (within_sub (within_mul h (cos_within g)) (within_mul k (sin_within g)))

pub turn_y_within : {p q : ℤ} (g : ℤ) → Within (2 ^ 46) p → Within (2 ^ 46) q → Within (2 ^ 61) (turn_y p q g)
unfolding turn_y
turn_y_within g h k = within_le (lit≤ tt) (within_add (within_mul h (sin_within g)) (within_mul k (cos_within g)))

-- a value of a rotation as the caller has it, who read the operands from an array and the angle from a parameter
pub rotated : (f : ℤ → ℤ → ℤ → ℤ) {p q g z : ℤ} → mag z < 2 ^ hbits w64 → Within (2 ^ 46) p → Within (2 ^ 46) q → SFits w32 g → z ≡ f (rd w64 p) (rd w64 q) (rd w32 g)
    → rd w64 z ≡ f p q g
rotated f m h k g e = rd_ok w64 m ∙ (rw (back w64 (lit< tt) h, back w64 (lit< tt) k, to_z-of_z g) at e)
