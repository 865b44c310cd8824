-- Laws of the inverse DCT: the recursion as the code counts, zeros stay zeros, the DC-only case, entries from 2^n on stay.
use mathlib.Core.Path.{◌≡◌, refl, sym, subst}
use mathlib.Core.Bool.{true}
use mathlib.Core.List.{List, [], ◌∷◌}
use Prim.Native.Nat.{ℕ, zero, suc, ◌-◌, ◌*◌, ◌/◌, ◌^◌, ◌≤◌, ◌<◌}
use native.Mathlib.Nat.{mul-le-mul}
use native.Mathlib.Numerals.{sub-one}
use native.Mathlib.Omega.{arith}
use lib.Dec.{T, lit≤}
use lib.IntN.{ℤ, pos, ◌*ℤ◌}
use lib.Pow.{pow_pos}
use lib.ListN.{get_or, replicate}
use Rattle.whole.specs.Round.{Round2}
use Rattle.whole.specs.Lists.{fill, move}
use Rattle.whole.specs.Steps.{run, each, when, ◌⨾◌}
use Rattle.whole.specs.Inner.{Ok}
use Rattle.whole.proofs.Steps.{Left, left_all, left_next}
use Rattle.primitives.specs.Brev.{Brev}
use Rattle.steps.specs.Step.{Step, Bf, Move, step}
use Rattle.steps.specs.Inner.{turned}
use Rattle.steps.proofs.Shapes.{Z, X, R, shape, Zeros, Alone, zeros_stay, alone_turned}
use Rattle.steps.proofs.Places.{writes, every, Stays, steps_stay}
use Rattle.dct.specs.Dct.{turn4a, turn4b, steps2, steps3, steps4, steps5, steps6, steps7, tail_at, tail, dct_steps, dct_row, dct}

-- as the code counts: n - 1
pub dct_more : (n : ℕ) → 2 ≤ n → dct_steps n ≡ dct_steps (n - 1) ⨾ tail n
unfolding dct_steps
dct_more zero h = absurd (omega arith)
dct_more (suc zero) h = absurd (omega arith)
dct_more (suc (suc k)) h = rw sub-one

pub dct_first : (n : ℕ) → n ≡ 2 → dct_steps (n - 1) ≡ Bf 0 1 (pos 16) true ∷ []
unfolding dct_steps
dct_first n e = rw e

-- step 4 is for n = 5 alone
pub steps4_five : (n : ℕ) → n ≡ 5 → steps4 n (2 ^ n) ≡ each 2 (λ i. each 2 (turn4a 5 32 i)) ⨾ each 2 (λ i. each 4 (turn4b 32 i))
unfolding steps4 when
steps4_five n e = rw e

-- n2 j, a product of two that vary
pub quarter : (n0 j : ℕ) → n0 ≤ 32 → j < 2 → n0 / 4 * j ≤ 8
quarter n0 j h l = let a : n0 / 4 ≤ 8 = omega arith in let b : j ≤ 1 = omega arith in mul-le-mul a b

-- what the permutation leaves to the process
pub dct_process : {Fine : Step → List ℤ → Type 0} (n : ℕ) {t u : List ℤ} → Ok step Fine (dct_row n) t → u ≡ step (Move (2 ^ n) (Brev n)) t
    → Left step Fine (dct_steps n) u (dct n t)
unfolding dct_row dct
dct_process n ok e = left_next (left_all ok) e

-- a number from 2 to 5 is one of the four
pub two_to_five : (P : ℕ → Type 0) → P 2 → P 3 → P 4 → P 5 → (n : ℕ) → 2 ≤ n → n ≤ 5 → P n
two_to_five P a b c d zero l h = absurd (omega arith)
two_to_five P a b c d (suc zero) l h = absurd (omega arith)
two_to_five P a b c d (suc (suc zero)) l h = a
two_to_five P a b c d (suc (suc (suc zero))) l h = b
two_to_five P a b c d (suc (suc (suc (suc zero)))) l h = c
two_to_five P a b c d (suc (suc (suc (suc (suc zero))))) l h = d
two_to_five P a b c d (suc (suc (suc (suc (suc (suc n)))))) l h = absurd (omega arith)

-- 2^n, from below
pub at_least : (n : ℕ) → 2 ≤ n → n ≤ 5 → (4 ≤ 2 ^ n) × (4 ≤ n → 16 ≤ 2 ^ n)
at_least =
    two_to_five (λ n. (4 ≤ 2 ^ n) × (4 ≤ n → 16 ≤ 2 ^ n)) (lit≤ tt, λ h. omega arith) (lit≤ tt, λ h. omega arith) (lit≤ tt, λ h. lit≤ tt)
    (lit≤ tt, λ h. lit≤ tt)

-- ---- computed of the four lists of steps
dct_writes : (n : ℕ) → 2 ≤ n → n ≤ 5 → T (every (writes (2 ^ n)) (dct_row n))
unfolding every writes dct_row dct_steps tail tail_at steps2 steps3 steps4 steps5 steps6 steps7 each when
dct_writes = two_to_five (λ n. T (every (writes (2 ^ n)) (dct_row n))) tt tt tt tt

zero_shape : (n : ℕ) → 2 ≤ n → n ≤ 5 → run shape (dct_row n) (replicate (2 ^ n) Z) ≡ replicate (2 ^ n) Z
unfolding run shape dct_row dct_steps tail tail_at steps2 steps3 steps4 steps5 steps6 steps7 each when Brev move fill
zero_shape = two_to_five (λ n. run shape (dct_row n) (replicate (2 ^ n) Z) ≡ replicate (2 ^ n) Z) refl refl refl refl

dc_shape : (n : ℕ) → 2 ≤ n → n ≤ 5 → run shape (dct_row n) (X ∷ replicate (2 ^ n - 1) Z) ≡ replicate (suc (2 ^ n - 1)) R
unfolding run shape dct_row dct_steps tail tail_at steps2 steps3 steps4 steps5 steps6 steps7 each when Brev move fill
dc_shape = two_to_five (λ n. run shape (dct_row n) (X ∷ replicate (2 ^ n - 1) Z) ≡ replicate (suc (2 ^ n - 1)) R) refl refl refl refl

-- ---- the laws
-- entries from 2^n on stay, and the length
pub dct_stays : (n : ℕ) → 2 ≤ n → n ≤ 5 → (t : List ℤ) → Stays (2 ^ n) t (dct n t)
unfolding dct
dct_stays n l h t = steps_stay (2 ^ n) (dct_row n) t (dct_writes n l h)

-- zeros stay zeros
pub dct_zeros : (n : ℕ) → 2 ≤ n → n ≤ 5 → {t : List ℤ} → Zeros (2 ^ n) t → dct n t ≡ t
unfolding dct
dct_zeros n l h z = zeros_stay (2 ^ n) (dct_row n) (zero_shape n l h) (dct_writes n l h) z

-- the DC-only law, over all x
pub dct_dc : (n : ℕ) → 2 ≤ n → n ≤ 5 → {x : ℤ} {t : List ℤ} → Alone (2 ^ n) x t → (k : ℕ) → k < 2 ^ n → get_or (dct n t) k (pos 0) ≡ Round2 (x *ℤ pos 11585) 14
unfolding dct turned
dct_dc n l h {x} {t} a k lt =
    let e : suc (2 ^ n - 1) ≡ 2 ^ n = omega (arith, pow_pos n) in
    alone_turned (2 ^ n - 1) (dct_row n) (dc_shape n l h) (subst (λ (m : ℕ). Alone m x t) (sym e) a) k (omega (arith, e))
