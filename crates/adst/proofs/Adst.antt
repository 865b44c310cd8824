-- Laws of the inverse ADST: its size is one of three, zeros stay zeros, entries from 2^n on stay.
use mathlib.Core.Path.{◌≡◌, refl, sym, ap}
use mathlib.Core.List.{List, [], ◌∷◌}
use Prim.Native.Nat.{ℕ, zero, suc, ◌^◌, ◌≤◌}
use native.Mathlib.Omega.{arith}
use lib.Dec.{T}
use lib.IntN.{ℤ}
use lib.ListN.{replicate}
use Rattle.whole.specs.Lists.{fill, move}
use Rattle.whole.specs.Steps.{run, each}
use Rattle.steps.proofs.Shapes.{Z, shape, shape2, blank, Zeros, zeros_stay2}
use Rattle.steps.specs.Step.{A4, step, adst4}
use Rattle.steps.specs.Step2.{Step2, on, step2, fresh}
use Rattle.steps.proofs.Places.{writes, writes2, every, Stays, steps_stay2}
use Rattle.adst.specs.Adst.{adst_in, out8, out16, adst_out, on_t, adst8_steps, adst16_steps, adst_steps, adst}

-- a number from 2 to 4 is one of the three
pub two_to_four : (P : ℕ → Type 0) → P 2 → P 3 → P 4 → (n : ℕ) → 2 ≤ n → n ≤ 4 → P n
two_to_four P a b c zero l h = absurd (omega arith)
two_to_four P a b c (suc zero) l h = absurd (omega arith)
two_to_four P a b c (suc (suc zero)) l h = a
two_to_four P a b c (suc (suc (suc zero))) l h = b
two_to_four P a b c (suc (suc (suc (suc zero)))) l h = c
two_to_four P a b c (suc (suc (suc (suc (suc n))))) l h = absurd (omega arith)

-- ---- computed of the three lists of steps
adst_writes : (n : ℕ) → 2 ≤ n → n ≤ 4 → T (every (writes2 (2 ^ n)) (adst_steps n))
unfolding every writes writes2 adst_steps adst8_steps adst16_steps on_t each
adst_writes = two_to_four (λ n. T (every (writes2 (2 ^ n)) (adst_steps n))) tt tt tt

zero_shape : (n : ℕ) → 2 ≤ n → n ≤ 4 → (run shape2 (adst_steps n) (blank (replicate (2 ^ n) Z))).T ≡ replicate (2 ^ n) Z
unfolding run shape shape2 adst_steps adst8_steps adst16_steps adst_in adst_out out8 out16 on_t each move fill
zero_shape = two_to_four (λ n. (run shape2 (adst_steps n) (blank (replicate (2 ^ n) Z))).T ≡ replicate (2 ^ n) Z) refl refl refl

-- ---- the laws
-- entries from 2^n on stay, and the length
pub adst_stays : (n : ℕ) → 2 ≤ n → n ≤ 4 → (t : List ℤ) → Stays (2 ^ n) t (adst n t)
unfolding adst fresh
adst_stays n l h t = steps_stay2 (2 ^ n) (adst_steps n) (fresh t) (adst_writes n l h)

-- zeros stay zeros
pub adst_zeros : (n : ℕ) → 2 ≤ n → n ≤ 4 → {t : List ℤ} → Zeros (2 ^ n) t → adst n t ≡ t
unfolding adst
adst_zeros n l h z = zeros_stay2 (2 ^ n) (adst_steps n) (zero_shape n l h) (adst_writes n l h) z

-- the process of each size, and its steps
pub four_steps : (n : ℕ) → n ≡ 2 → adst_steps n ≡ on A4 ∷ []
unfolding adst_steps
four_steps n e = rw e

pub eight_steps : (n : ℕ) → n ≡ 3 → adst_steps n ≡ adst8_steps
unfolding adst_steps
eight_steps n e = rw e

pub sixteen_steps : (n : ℕ) → n ≡ 4 → adst_steps n ≡ adst16_steps
unfolding adst_steps
sixteen_steps n e = rw e

pub four_is : (n : ℕ) (t : List ℤ) → n ≡ 2 → adst4 t ≡ adst n t
unfolding adst fresh run step2 step
four_is n t e = ap (λ (ss : List Step2). (run step2 ss (fresh t)).T) (sym (four_steps n e))

pub eight_is : (n : ℕ) (t : List ℤ) → n ≡ 3 → (run step2 adst8_steps (fresh t)).T ≡ adst n t
unfolding adst
eight_is n t e = ap (λ (ss : List Step2). (run step2 ss (fresh t)).T) (sym (eight_steps n e))

pub sixteen_is : (n : ℕ) (t : List ℤ) → n ≡ 4 → (run step2 adst16_steps (fresh t)).T ≡ adst n t
unfolding adst
sixteen_is n t e = ap (λ (ss : List Step2). (run step2 ss (fresh t)).T) (sym (sixteen_steps n e))
