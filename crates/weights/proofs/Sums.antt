-- Laws of sums: as a loop adds, one of the numbers, a table row by row, two sums that are near each other; and the total of a block by its rows.
use mathlib.Core.Path.{◌≡◌, refl, sym, ap, ◌∙◌}
use mathlib.Core.List.{List}
use Prim.Native.Nat.{ℕ, zero, suc, ◌+◌, ◌*◌, ◌≤◌, ◌<◌}
use native.Mathlib.Nat as NatL
use native.Mathlib.Omega.{arith}
use lib.IntN.{ℤ, pos, nat_abs}
use lib.ListN.{get_or}
use Rattle.blocks.specs.Block.{row}
use Rattle.blocks.proofs.Lines.{line_at}
use Rattle.weights.specs.Inner.{sum, total}

-- ---- sums
pub sum_same : (n : ℕ) (f g : ℕ → ℕ) → ((i : ℕ) → i < n → f i ≡ g i) → sum n f ≡ sum n g
unfolding sum
sum_same zero f g h = refl
sum_same (suc n) f g h = omega (arith, h 0 (omega arith), sum_same n (λ i. f (suc i)) (λ i. g (suc i)) (λ i l. h (suc i) (omega arith)))

-- a sum of as many, written otherwise
sum_at_lem : {a b : ℕ} (f : ℕ → ℕ) → a ≡ b → sum a f ≡ sum b f
sum_at_lem f e = ap (λ q. sum q f) e

pub sum_join : (a b : ℕ) (f : ℕ → ℕ) → sum (a + b) f ≡ sum a f + sum b (λ i. f (a + i))
unfolding sum
sum_join zero b f =
    let e : 0 + b ≡ b = omega arith in
    omega (arith, sum_at_lem f e, sum_same b f (λ i. f (0 + i)) (λ i l. ap f (omega arith)))
sum_join (suc a) b f =
    let e : suc a + b ≡ suc (a + b) = omega arith in
    omega (arith, sum_at_lem f e, sum_join a b (λ i. f (suc i)), sum_same b (λ i. f (suc (a + i))) (λ i. f (suc a + i)) (λ i l. ap f (omega arith)))

-- one of the numbers is at most their sum
pub sum_one : (n i : ℕ) (f : ℕ → ℕ) → i < n → f i ≤ sum n f
unfolding sum
sum_one zero i f h = absurd (omega arith)
sum_one (suc n) zero f h = omega arith
sum_one (suc n) (suc i) f h = omega (arith, sum_one n i (λ i. f (suc i)) (omega arith))

-- a table row by row
sum_rows : (r c : ℕ) (f : ℕ → ℕ) → sum (r * c) f ≡ sum r (λ i. sum c (λ j. f (i * c + j)))
unfolding sum
sum_rows zero c f = let e : 0 * c ≡ 0 = omega arith in sum_at_lem f e
sum_rows (suc r) c f =
    let e : suc r * c ≡ c + r * c = omega (arith, NatL.suc-mul r c) in
    let g : ℕ → ℕ = λ p. f (c + p) in
    let first = sum_same c f (λ j. f (0 * c + j)) (λ j l. ap f (omega arith)) in
    let rest : sum r (λ i. sum c (λ j. g (i * c + j))) ≡ sum r (λ i. sum c (λ j. f (suc i * c + j))) =
    sum_same r (λ i. sum c (λ j. g (i * c + j))) (λ i. sum c (λ j. f (suc i * c + j)))
    (λ i l. sum_same c (λ j. g (i * c + j)) (λ j. f (suc i * c + j)) (λ j q. ap f (omega (arith, NatL.suc-mul i c)))) in
    omega (arith, sum_at_lem f e, sum_join c (r * c) f, sum_rows r c g, first, rest)

-- 16384 f i ≤ k g i + e, over all i
pub sum_weighs : (n k e : ℕ) (f g : ℕ → ℕ) → ((i : ℕ) → i < n → 16384 * f i ≤ k * g i + e) → 16384 * sum n f ≤ k * sum n g + n * e
unfolding sum
sum_weighs zero k e f g h = omega arith
sum_weighs (suc n) k e f g h =
    omega (
      arith,
      h 0 (omega arith),
      sum_weighs n k e (λ i. f (suc i)) (λ i. g (suc i)) (λ i l. h (suc i) (omega arith)),
      NatL.mul-add k (g 0) (sum n (λ i. g (suc i))),
      NatL.suc-mul n e,
    )

-- ---- the total of a list: of none, of one more, as a loop adds, and one of its numbers
pub total_none : (s : List ℤ) → total 0 s ≡ 0
unfolding total sum
total_none s = refl

pub total_more : (n : ℕ) (s : List ℤ) → total (n + 1) s ≡ total n s + nat_abs (get_or s n (pos 0))
unfolding total sum
total_more n s =
    let f : ℕ → ℕ = λ i. nat_abs (get_or s i (pos 0)) in
    let e : f (n + 0) ≡ f n = ap f (omega arith) in
    omega (arith, sum_join n 1 f, e)

pub total_one : (n i : ℕ) (s : List ℤ) → i < n → nat_abs (get_or s i (pos 0)) ≤ total n s
unfolding total
total_one n i s h = sum_one n i (λ i. nat_abs (get_or s i (pos 0))) h

-- ---- of a block: the totals of its rows, added up
pub total_rows : (n0 : ℕ) (s : List ℤ) → n0 ≤ 32 → total (n0 * n0) s ≡ sum n0 (λ i. total n0 (row n0 i s))
unfolding total
total_rows n0 s h =
    let f : ℕ → ℕ = λ p. nat_abs (get_or s p (pos 0)) in
    sum_rows n0 n0 f
    ∙ sum_same n0 (λ i. sum n0 (λ j. f (i * n0 + j))) (λ i. total n0 (row n0 i s))
    (λ i l. sum_same n0 (λ j. f (i * n0 + j)) (λ j. nat_abs (get_or (row n0 i s) j (pos 0)))
    (λ j q. ap f (omega arith) ∙ ap nat_abs (sym (line_at (i * n0) 1 n0 s j h q))))

-- a row's is at most the block's
pub total_row : (n0 i : ℕ) (s : List ℤ) → n0 ≤ 32 → i < n0 → total n0 (row n0 i s) ≤ total (n0 * n0) s
total_row n0 i s h l = omega (arith, total_rows n0 s h, sum_one n0 i (λ i. total n0 (row n0 i s)) l)
