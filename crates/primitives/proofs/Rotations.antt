-- The two-multiply form of B at angles 16 + 32k gives the same numbers as the four-multiply form.
use mathlib.Core.Path.{◌≡◌}
use native.Mathlib.Omega.{arith}
use lib.IntN.{ℤ, neg_ℤ, ◌+ℤ◌, ◌-ℤ◌, ◌*ℤ◌}
use Rattle.whole.proofs.Ring.{at, ◌⊕◌, ◌⊖◌, ◌⊗◌, neg, ring}
use Rattle.primitives.specs.Cosine.{Cos64, Sin64}
use Rattle.primitives.specs.Rotations.{turn_x, turn_y}

module _ (p q g : ℤ) (e : Sin64 g ≡ Cos64 g) where
  pub even_x : (p -ℤ q) *ℤ Cos64 g ≡ turn_x p q g
  unfolding turn_x
  even_x = rw e (ring ((at p ⊖ at q) ⊗ at (Cos64 g)) (at p ⊗ at (Cos64 g) ⊖ at q ⊗ at (Cos64 g)) (omega arith))

  pub even_y : (p +ℤ q) *ℤ Cos64 g ≡ turn_y p q g
  unfolding turn_y
  even_y = rw e (ring ((at p ⊕ at q) ⊗ at (Cos64 g)) (at p ⊗ at (Cos64 g) ⊕ at q ⊗ at (Cos64 g)) (omega arith))

module _ (p q g : ℤ) (e : Sin64 g ≡ neg_ℤ (Cos64 g)) where
  pub odd_x : (p +ℤ q) *ℤ Cos64 g ≡ turn_x p q g
  unfolding turn_x
  odd_x = rw e (ring ((at p ⊕ at q) ⊗ at (Cos64 g)) (at p ⊗ at (Cos64 g) ⊖ at q ⊗ neg (at (Cos64 g))) (omega arith))

  pub odd_y : (q -ℤ p) *ℤ Cos64 g ≡ turn_y p q g
  unfolding turn_y
  odd_y = rw e (ring ((at q ⊖ at p) ⊗ at (Cos64 g)) (at p ⊗ neg (at (Cos64 g)) ⊕ at q ⊗ at (Cos64 g)) (omega arith))
