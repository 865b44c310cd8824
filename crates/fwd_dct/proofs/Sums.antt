-- Laws of sums.
use mathlib.Core.Path.{◌≡◌, refl, sym, ap, ap₂, ◌∙◌}
use Prim.Native.Nat.{ℕ, zero, suc, ◌+◌, ◌-◌, ◌*◌, ◌<◌}
use native.Mathlib.Omega.{arith}
use lib.IntN.{ℤ, pos, ◌+ℤ◌, ◌*ℤ◌}
use Rattle.whole.specs.Within.{Within}
use Rattle.whole.proofs.Within.{within_zero, within_add, within_le}
use Rattle.whole.proofs.Ring.{at, ◌⊕◌, ◌⊗◌, ring}
use Rattle.fwd_dct.specs.Sum.{sum}

pub sum_none : (f : ℕ → ℤ) → pos 0 ≡ sum 0 f
unfolding sum
sum_none f = refl

-- two terms more
pub sum_two : (f : ℕ → ℤ) (i : ℕ) (a b : ℤ) → a ≡ f i → b ≡ f (i + 1) → sum i f +ℤ (a +ℤ b) ≡ sum (i + 2) f
unfolding sum
sum_two f i a b p q =
    let e : i + 2 ≡ suc (suc i) = omega arith in
    let g : i + 1 ≡ suc i = omega arith in
    rw (e, p, q, g) (ring (at (sum i f) ⊕ (at (f i) ⊕ at (f (suc i)))) (at (sum i f) ⊕ at (f i) ⊕ at (f (suc i))) (omega arith))

pub sum_within : (m : ℕ) (f : ℕ → ℤ) (n : ℕ) → ((k : ℕ) → k < n → Within m (f k)) → Within (n * m) (sum n f)
unfolding sum
sum_within m f zero h = within_zero
sum_within m f (suc n) h = within_le (omega arith) (within_add (sum_within m f n (λ k l. h k (omega arith))) (h n (omega arith)))

pub sum_same : (f g : ℕ → ℤ) (n : ℕ) → ((k : ℕ) → k < n → f k ≡ g k) → sum n f ≡ sum n g
unfolding sum
sum_same f g zero h = refl
sum_same f g (suc n) h = ap₂ (λ (x y : ℤ). x +ℤ y) (sum_same f g n (λ k l. h k (omega arith))) (h n (omega arith))

-- a factor of every term
pub sum_scaled : (f : ℕ → ℤ) (c : ℤ) (n : ℕ) → sum n f *ℤ c ≡ sum n (λ k. f k *ℤ c)
unfolding sum
sum_scaled f c zero = ring (at (pos 0) ⊗ at c) (at (pos 0)) (omega arith)
sum_scaled f c (suc n) =
    ring ((at (sum n f) ⊕ at (f n)) ⊗ at c) (at (sum n f) ⊗ at c ⊕ at (f n) ⊗ at c) (omega arith)
    ∙ ap (λ (z : ℤ). z +ℤ f n *ℤ c) (sum_scaled f c n)

-- a term in front
sum_front : (f : ℕ → ℤ) (n : ℕ) → sum (suc n) f ≡ f 0 +ℤ sum n (λ k. f (suc k))
unfolding sum
sum_front f zero = ring (at (pos 0) ⊕ at (f 0)) (at (f 0) ⊕ at (pos 0)) (omega arith)
sum_front f (suc n) =
    ap (λ (z : ℤ). z +ℤ f (suc n)) (sum_front f n)
    ∙ ring (at (f 0) ⊕ at (sum n (λ k. f (suc k))) ⊕ at (f (suc n))) (at (f 0) ⊕ (at (sum n (λ k. f (suc k))) ⊕ at (f (suc n)))) (omega arith)

-- a sum from both ends: the first and the last term, the second and the last but one, ..
pub sum_folded : (f : ℕ → ℤ) (h : ℕ) → sum (2 * h) f ≡ sum h (λ i. f i +ℤ f (2 * h - 1 - i))
unfolding sum
sum_folded f zero = refl
sum_folded f (suc h) =
    let e : 2 * suc h ≡ suc (suc (2 * h)) = omega arith in
    let g : ℕ → ℤ = λ k. f (suc k) in
    let t : sum h (λ i. g i +ℤ g (2 * h - 1 - i)) ≡ sum h (λ i. f (suc i) +ℤ f (suc (2 * h) - suc i)) =
    sum_same _ _ h (λ k l. let q : suc (2 * h - 1 - k) ≡ suc (2 * h) - suc k = omega arith in rw q) in
    let last : suc (2 * h) ≡ suc (2 * h) - 0 = omega arith in
    let rest = sum h (λ i. f (suc i) +ℤ f (suc (2 * h) - suc i)) in
    rw e
    (ap (λ (z : ℤ). z +ℤ f (suc (2 * h))) (sum_front f (2 * h) ∙ ap (λ (z : ℤ). f 0 +ℤ z) (sum_folded g h ∙ t))
    ∙ ap (λ (k : ℕ). f 0 +ℤ rest +ℤ f k) last
    ∙ ring (at (f 0) ⊕ at rest ⊕ at (f (suc (2 * h) - 0))) (at (f 0) ⊕ at (f (suc (2 * h) - 0)) ⊕ at rest) (omega arith)
    ∙ sym (sum_front (λ i. f i +ℤ f (suc (2 * h) - i)) h)
    ∙ sum_same (λ i. f i +ℤ f (suc (2 * h) - i)) (λ i. f i +ℤ f (suc (suc (2 * h)) - 1 - i)) (suc h) (λ k l. let q : suc (2 * h) - k ≡ suc (suc (2 * h)) - 1 - k = omega arith in rw q))
