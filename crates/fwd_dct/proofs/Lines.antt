-- Laws of one line: a basis is the same from both ends, up to its sign; so a coefficient is a sum of half as many products.
use mathlib.Core.Path.{◌≡◌, sym, ap, ap₂, ◌∙◌}
use mathlib.Core.Bool.{Bool, true, false, cond}
use mathlib.Core.List.{List}
use Prim.Native.Nat.{ℕ, ◌+◌, ◌-◌, ◌*◌, ◌/◌, ◌%◌, ◌^◌, ◌≤◌, ◌<◌}
use native.Mathlib.Nat as NatL
use native.Mathlib.Omega.{arith}
use borrow.Author.Tests.{eq-eqb, ne_eqb}
use lib.Dec.{T, eqb, eqb→eq}
use lib.IntN.{ℤ, pos, negsuc, neg_ℤ, ◌+ℤ◌, ◌*ℤ◌}
use lib.ListN.{length, get_or}
use Rattle.whole.specs.Lists.{fill}
use Rattle.whole.specs.Within.{Within}
use Rattle.whole.proofs.Tests.{all_below, below}
use Rattle.whole.proofs.Within.{within_mul, within_le}
use Rattle.whole.proofs.Ring.{at, ◌⊕◌, ◌⊗◌, neg, ring}
use Rattle.answers.specs.Sizes.{side}
use Rattle.primitives.specs.Cosine.{cos_at, Cos64}
use Rattle.basis.specs.Basis.{basis_at, table}
use Rattle.basis.proofs.Rule.{basis_within, smaller, row_below}
use Rattle.dct.proofs.Dct.{two_to_five}
use Rattle.blocks.specs.Block.{line}
use Rattle.blocks.specs.Inner.{FirstWithin}
use Rattle.blocks.proofs.Lines.{fill_at, line_at, line_length}
use Rattle.fwd_dct.specs.Sum.{sum}
use Rattle.fwd_dct.specs.Inner.{line_sum, line_of}
use Rattle.fwd_dct.proofs.Sums.{sum_same, sum_folded, sum_within}

-- ---- a basis from its other end, by one computed test a size
abbrev pub turn : ℕ → ℤ → ℤ
turn k z = cond (eqb (k % 2) 0) z (neg_ℤ z)

pub turn_even : (k : ℕ) (z : ℤ) → k % 2 ≡ 0 → z ≡ turn k z
turn_even k z e = rw (eq-eqb (k % 2) 0 e)

pub turn_odd : (k : ℕ) (z : ℤ) → k % 2 ≡ 1 → neg_ℤ z ≡ turn k z
turn_odd k z e = rw (ne_eqb (k % 2) 0 (λ q. omega arith))

abbrev pub eq_z : ℤ → ℤ → Bool
eq_z (pos a) (pos b) = eqb a b
eq_z (pos a) (negsuc b) = false
eq_z (negsuc a) (pos b) = false
eq_z (negsuc a) (negsuc b) = eqb a b

pub eq_z_eq : (a b : ℤ) → T (eq_z a b) → a ≡ b
eq_z_eq (pos a) (pos b) t = ap pos (eqb→eq a b t)
eq_z_eq (pos a) (negsuc b) t = absurd t
eq_z_eq (negsuc a) (pos b) t = absurd t
eq_z_eq (negsuc a) (negsuc b) t = ap negsuc (eqb→eq a b t)

abbrev mirrored : ℕ → Bool
mirrored n = all_below (2 ^ n) (λ k. all_below (2 ^ n) (λ i. eq_z (basis_at n k (2 ^ n - 1 - i)) (turn k (basis_at n k i))))

tested : (n : ℕ) → 2 ≤ n → n ≤ 5 → T (mirrored n)
unfolding basis_at Cos64 cos_at
tested = two_to_five (λ n. T (mirrored n)) tt tt tt tt

mirror : (n k i : ℕ) → 2 ≤ n → n ≤ 5 → k < 2 ^ n → i < 2 ^ n → basis_at n k (2 ^ n - 1 - i) ≡ turn k (basis_at n k i)
mirror n k i l h hk hi =
    eq_z_eq _ _
    (below (2 ^ n) (λ i. eq_z (basis_at n k (2 ^ n - 1 - i)) (turn k (basis_at n k i)))
    (below (2 ^ n) (λ k. all_below (2 ^ n) (λ i. eq_z (basis_at n k (2 ^ n - 1 - i)) (turn k (basis_at n k i)))) (tested n l h) k hk) i hi)

-- the even half of a size
pub quarters : (n : ℕ) → 2 ≤ n → n ≤ 5 → 2 * (2 ^ n / 4) ≡ 2 ^ n / 2
quarters = two_to_five (λ n. 2 * (2 ^ n / 4) ≡ 2 ^ n / 2) (omega arith) (omega arith) (omega arith) (omega arith)

pub halves : (n : ℕ) → 2 ≤ n → n ≤ 5 → 2 * (2 ^ n / 2) ≡ 2 ^ n
halves = two_to_five (λ n. 2 * (2 ^ n / 2) ≡ 2 ^ n) (omega arith) (omega arith) (omega arith) (omega arith)

-- ---- a coefficient from both ends of its line
folded : (n : ℕ) (t : List ℤ) (k : ℕ) → 2 ≤ n → n ≤ 5 → k < 2 ^ n
    → line_sum n t k ≡ sum (2 ^ n / 2) (λ i. (get_or t i (pos 0) +ℤ turn k (get_or t (2 ^ n - 1 - i) (pos 0))) *ℤ basis_at n k i)
unfolding line_sum
folded n t k l h hk =
    let e = halves n l h in
    let f : ℕ → ℤ = λ i. get_or t i (pos 0) *ℤ basis_at n k i in
    ap (λ (c : ℕ). sum c f) (sym e) ∙ sum_folded f (2 ^ n / 2)
    ∙ sum_same _ _ (2 ^ n / 2)
    (λ i q. rw e (ap (λ (z : ℤ). f i +ℤ get_or t (2 ^ n - 1 - i) (pos 0) *ℤ z) (mirror n k i l h hk (omega arith)) ∙ joined (get_or t i (pos 0)) (get_or t (2 ^ n - 1 - i) (pos 0)) (basis_at n k i) (eqb (k % 2) 0)))
  where
    joined : (x y b : ℤ) (c : Bool) → x *ℤ b +ℤ y *ℤ cond c b (neg_ℤ b) ≡ (x +ℤ cond c y (neg_ℤ y)) *ℤ b
    joined x y b true = ring (at x ⊗ at b ⊕ at y ⊗ at b) ((at x ⊕ at y) ⊗ at b) (omega arith)
    joined x y b false = ring (at x ⊗ at b ⊕ at y ⊗ neg (at b)) ((at x ⊕ neg (at y)) ⊗ at b) (omega arith)

-- ---- how far a line reaches
pub side_most : (n : ℕ) → 2 ≤ n → n ≤ 5 → 2 ^ n ≤ 32
side_most = two_to_five (λ n. 2 ^ n ≤ 32) (omega arith) (omega arith) (omega arith) (omega arith)

pub coef_at : (n : ℕ) (t : List ℤ) (k : ℕ) → 2 ≤ n → n ≤ 5 → length t ≡ 32 → k < 2 ^ n → get_or (line_of n t) k (pos 0) ≡ line_sum n t k
unfolding line_of
coef_at n t k l h e q = fill_at (2 ^ n) (line_sum n t) t k (omega (arith, side_most n l h)) q

pub line_sum_within : (m n : ℕ) (t : List ℤ) (k : ℕ) → 2 ≤ n → n ≤ 5 → ((i : ℕ) → i < 2 ^ n → Within m (get_or t i (pos 0))) → Within (32 * (m * 16384)) (line_sum n t k)
unfolding line_sum
line_sum_within m n t k l h b =
    within_le (omega (arith, NatL.mul-le-mul_right (m * 16384) (side_most n l h)))
    (sum_within (m * 16384) (λ i. get_or t i (pos 0) *ℤ basis_at n k i) (2 ^ n) (λ i q. within_mul (b i q) (basis_within n k i)))

-- ---- as the code has it: the half x of a line of s from both ends, against row k of the table
module _ (n : ℕ) (l : 2 ≤ n) (h : n ≤ 5) (s : List ℤ) (start step : ℕ) where
  pub half_coef : (x basis : List ℤ) (k : ℕ) → basis ≡ table → k < side n
      → ((i : ℕ) → i < side n / 2 → get_or x i (pos 0) ≡ get_or s (start + i * step) (pos 0) +ℤ turn k (get_or s (start + (2 * (side n / 2) - 1 - i) * step) (pos 0)))
      → sum (2 * (side n / 4)) (λ i. get_or x i (pos 0) *ℤ get_or basis (k * (2 ^ (5 - n) * 32) + i) (pos 0)) ≡ get_or (line_of n (line start step (side n) s)) k (pos 0)
  half_coef x basis k e hk f =
      let t = line start step (side n) s in
      let m = side_most n l h in
      ap (λ (c : ℕ). sum c (λ i. get_or x i (pos 0) *ℤ get_or basis (k * (2 ^ (5 - n) * 32) + i) (pos 0))) (quarters n l h)
      ∙ sum_same _ _ (side n / 2)
      (λ i q. let g : i < 2 ^ n = omega arith in
      let ends : get_or s (start + i * step) (pos 0) +ℤ turn k (get_or s (start + (2 * (side n / 2) - 1 - i) * step) (pos 0)) ≡ get_or t i (pos 0) +ℤ turn k (get_or t (side n - 1 - i) (pos 0)) =
      rw (halves n l h) (ap₂ (λ (y z : ℤ). y +ℤ turn k z) (sym (line_at start step (side n) s i m g)) (sym (line_at start step (side n) s (side n - 1 - i) m (omega arith)))) in
      ap₂ (λ (y z : ℤ). y *ℤ z) (f i q ∙ ends)
      (ap (λ (b : List ℤ). get_or b (k * (2 ^ (5 - n) * 32) + i) (pos 0)) e ∙ smaller n k i h hk g))
      ∙ sym (folded n t k l h hk) ∙ sym (coef_at n t k l h (line_length start step (side n) s) hk)

-- a half is within 2^32
pub half_within : (n : ℕ) → 2 ≤ n → n ≤ 5 → (x z : List ℤ) (g : ℕ → ℤ) → length z ≡ 16 → x ≡ fill (side n / 2) g z → ((i : ℕ) → i < side n / 2 → Within (2 ^ 32) (g i))
    → FirstWithin (2 ^ 32) (2 * (side n / 4)) x
half_within n l h x z g r e b =
    record { each = λ i q. let p : i < side n / 2 = rw (quarters n l h) at q in rw (e, fill_at (side n / 2) g z i (omega (arith, side_most n l h)) p) (b i p) }

-- the row of a coefficient has room for a half
pub row_room : (n k : ℕ) → n ≤ 5 → k < 2 ^ n → k * (2 ^ (5 - n) * 32) + 16 ≤ 1024
row_room n k h l = omega (arith, row_below n k h l)
