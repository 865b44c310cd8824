-- A flat block: one coefficient, and zeros.
use mathlib.Core.Path.{◌≡◌, refl, sym, ap, ap₂, ◌∙◌}
use mathlib.Core.Bool.{cond}
use mathlib.Core.List.{List}
use Prim.Native.Nat.{ℕ, ◌+◌, ◌*◌, ◌/◌, ◌%◌, ◌^◌, ◌≤◌, ◌<◌}
use native.Mathlib.Decide.{ℕ_discrete}
use native.Mathlib.Nat as NatL
use native.Mathlib.Omega.{arith}
use borrow.Author.Tests.{eq-eqb, ne_eqb}
use lib.Dec.{T, eqb}
use lib.IntN.{ℤ, pos, ◌*ℤ◌}
use lib.ListN.{get_or}
use lib.Pow.{pow_pos}
use Rattle.whole.specs.Round.{Round2}
use Rattle.whole.proofs.Lists.{get_d_tabulate}
use Rattle.whole.proofs.Ring.{at, ◌⊗◌, ring}
use Rattle.whole.proofs.Tests.{all_below, below}
use Rattle.answers.specs.Sizes.{side, area}
use Rattle.primitives.specs.Cosine.{cos_at, Cos64}
use Rattle.basis.specs.Basis.{basis_at}
use Rattle.dct.proofs.Dct.{two_to_five}
use Rattle.blocks.proofs.Places.{in_row}
use Rattle.fwd_dct.specs.Sum.{sum}
use Rattle.fwd_dct.specs.Forward.{exact, bits, forward_dct}
use Rattle.fwd_dct.proofs.Sums.{sum_same, sum_scaled}
use Rattle.fwd_dct.proofs.Lines.{eq_z, eq_z_eq}

-- the sum of a row of the basis: nothing but in row 0, by one computed test a size
abbrev total : ℕ → ℕ → ℤ
total n k = sum (2 ^ n) (λ i. basis_at n k i)

abbrev one_row : ℕ → ℕ → ℤ
one_row n k = cond (eqb k 0) (pos (2 ^ n * 11585)) (pos 0)

tested : (n : ℕ) → 2 ≤ n → n ≤ 5 → T (all_below (2 ^ n) (λ k. eq_z (total n k) (one_row n k)))
unfolding sum basis_at Cos64 cos_at
tested = two_to_five (λ n. T (all_below (2 ^ n) (λ k. eq_z (total n k) (one_row n k)))) tt tt tt tt

total_is : (n k : ℕ) → 2 ≤ n → n ≤ 5 → k < 2 ^ n → total n k ≡ one_row n k
total_is n k l h q = eq_z_eq (total n k) (one_row n k) (below (2 ^ n) (λ k. eq_z (total n k) (one_row n k)) (tested n l h) k q)

factor : (c : ℤ) (f : ℕ → ℤ) (n : ℕ) → sum n (λ k. c *ℤ f k) ≡ c *ℤ sum n f
factor c f n =
    sum_same (λ k. c *ℤ f k) (λ k. f k *ℤ c) n (λ k _. ring (at c ⊗ at (f k)) (at (f k) ⊗ at c) (omega arith))
    ∙ sym (sum_scaled f c n) ∙ ring (at (sum n f) ⊗ at c) (at c ⊗ at (sum n f)) (omega arith)

module _ (n : ℕ) (l : 2 ≤ n) (h : n ≤ 5) (s : List ℤ) (v : ℤ) (flat : (p : ℕ) → p < area n → get_or s p (pos 0) ≡ v) where
  -- the double sum of a flat block
  flat_sum : (u w : ℕ) → u < side n → w < side n → exact n s u w ≡ v *ℤ one_row n w *ℤ one_row n u
  unfolding exact
  flat_sum u w hu hw =
      sum_same _ (λ i. v *ℤ total n w *ℤ basis_at n u i) (side n)
      (λ i q. sum_same _ (λ j. v *ℤ basis_at n w j *ℤ basis_at n u i) (side n)
      (λ j r. ap (λ (z : ℤ). z *ℤ basis_at n w j *ℤ basis_at n u i) (flat (i * side n + j) (place i j q r)))
      ∙ sym (sum_scaled (λ j. v *ℤ basis_at n w j) (basis_at n u i) (side n))
      ∙ ap (λ (z : ℤ). z *ℤ basis_at n u i) (factor v (λ j. basis_at n w j) (side n)))
      ∙ factor (v *ℤ total n w) (λ i. basis_at n u i) (side n)
      ∙ ap₂ (λ (x y : ℤ). v *ℤ x *ℤ y) (total_is n w l h hw) (total_is n u l h hu)
    where
      place : (i j : ℕ) → i < side n → j < side n → i * side n + j < area n
      place i j q r = rw (NatL.mul-one j) at (in_row (side n) i j (area n) q r (NatL.le_refl (area n)))

  nothing : Round2 (pos 0) (bits n) ≡ pos 0
  unfolding Round2
  nothing = two_to_five (λ n. Round2 (pos 0) (bits n) ≡ pos 0) refl refl refl refl n l h

  -- place 0 has the whole of it, every other place nothing
  flat_at : (p : ℕ) → p < area n
      → get_or (forward_dct n s) p (pos 0) ≡ cond (eqb p 0) (Round2 (v *ℤ pos (side n * 11585) *ℤ pos (side n * 11585)) (bits n)) (pos 0)
  unfolding forward_dct
  flat_at p q =
      get_d_tabulate (λ p. Round2 (exact n s (p / side n) (p % side n)) (bits n)) (area n) p (pos 0) q
      ∙ ap (λ (z : ℤ). Round2 z (bits n)) (flat_sum (p / side n) (p % side n) ((NatL.div-lt_iff_lt-mul (pow_pos n)).1 q) (NatL.mod-lt p (pow_pos n)))
      ∙ by (ℕ_discrete (p / side n) 0) (ℕ_discrete (p % side n) 0)
    where
      by : Dec (p / side n ≡ 0) → Dec (p % side n ≡ 0)
          → Round2 (v *ℤ one_row n (p % side n) *ℤ one_row n (p / side n)) (bits n) ≡ cond (eqb p 0) (Round2 (v *ℤ pos (side n * 11585) *ℤ pos (side n * 11585)) (bits n)) (pos 0)
      by (yes x) (yes y) =
          let d = rw (x, y) at (NatL.div-add-mod' p (side n)) in
          let e : p ≡ 0 = omega (arith, d) in
          rw (eq-eqb (p / side n) 0 x, eq-eqb (p % side n) 0 y, eq-eqb p 0 e)
      by (yes x) (no y) =
          rw (ne_eqb (p % side n) 0 y, ne_eqb p 0 (λ (e : p ≡ 0). y (rw e (NatL.zero-mod (side n)))))
          (ap (λ (z : ℤ). Round2 z (bits n)) (ring (at v ⊗ at (pos 0) ⊗ at (one_row n (p / side n))) (at (pos 0)) (omega arith)) ∙ nothing)
      by (no x) y =
          rw (ne_eqb (p / side n) 0 x, ne_eqb p 0 (λ (e : p ≡ 0). x (rw e (NatL.zero-div (side n)))))
          (ap (λ (z : ℤ). Round2 z (bits n)) (ring (at v ⊗ at (one_row n (p % side n)) ⊗ at (pos 0)) (at (pos 0)) (omega arith)) ∙ nothing)

-- THE FLAT BLOCK of value v: its whole sum at place 0, and nothing elsewhere
pub dct_flat : (n : ℕ) → 2 ≤ n → n ≤ 5 → (s : List ℤ) (v : ℤ) → ((p : ℕ) → p < area n → get_or s p (pos 0) ≡ v) → (p : ℕ) → p < area n
    → get_or (forward_dct n s) p (pos 0) ≡ cond (eqb p 0) (Round2 (v *ℤ pos (side n * 11585) *ℤ pos (side n * 11585)) (bits n)) (pos 0)
dct_flat n l h s v flat = flat_at n l h s v flat
