-- A scan for a number that is not 0: as the code builds it up, and what it says of each number.
use mathlib.Core.Path.{◌≡◌, refl, sym, ap, ◌∙◌}
use mathlib.Core.Bool.{Bool, true, false, not}
use mathlib.Core.List.{List}
use Prim.Native.Nat.{ℕ, zero, suc, ◌+◌, ◌-◌, ◌≤◌, ◌<◌}
use native.Mathlib.Numerals.{add-one}
use native.Mathlib.Omega.{arith}
use borrow.Author.Tests.{lt-ltb, ltb-false, ne_eqb}
use lib.Dec.{ltb, eqb}
use lib.Bits.{bit_or, or_add_and, and_le_l, and_le_r}
use lib.IntN.{ℤ, pos, negsuc, nat_abs}
use lib.ListN.{get_or}
use mir.Syntax.{w64}
use mir.Val.{SFits, to_z, of_z}
use mir.Facts.{to_z-of_z}
use Rattle.whole.specs.Tests.{any_below}
use Rattle.whole.proofs.Tests.{any_at, any_hit}
use Rattle.blocks.specs.Block.{live}

-- the machine compares bits with those of 0
pub zero_bits : {z : ℤ} → SFits w64 z → of_z w64 z ≡ 0 → z ≡ pos 0
zero_bits {z} f e = sym (to_z-of_z f) ∙ ap (to_z w64) e

zero_not : {z : ℤ} → z ≡ pos 0 → ltb 0 (nat_abs z) ≡ false
zero_not e = rw e

live_not : (z : ℤ) → (of_z w64 z ≡ 0 → ⊥) → ltb 0 (nat_abs z) ≡ true
live_not (pos zero) h = absurd (h refl)
live_not (pos (suc a)) h = lt-ltb 0 (suc a) (omega arith)
live_not (negsuc a) h = lt-ltb 0 (suc a) (omega arith)

abs_zero : (z : ℤ) → ltb 0 (nat_abs z) ≡ false → z ≡ pos 0
abs_zero (pos zero) h = refl
abs_zero (pos (suc a)) h = absurd (omega (arith, ltb-false 0 (suc a) h))
abs_zero (negsuc a) h = absurd (omega (arith, ltb-false 0 (suc a) h))

pub any_next : (p : ℕ → Bool) (k : ℕ) {b : Bool} → b ≡ any_below p k → p k ≡ false → b ≡ any_below p (k + 1)
unfolding any_below
any_next p k e h = rw (add-one, h) e

pub live_next : (start : ℕ) (s : List ℤ) (k : ℕ) {b : Bool} → b ≡ live start k s → SFits w64 (get_or s (start + k) (pos 0)) → of_z w64 (get_or s (start + k) (pos 0)) ≡ 0
    → b ≡ live start (k + 1) s
unfolding live
live_next start s k e f h = any_next (λ k. ltb 0 (nat_abs (get_or s (start + k) (pos 0)))) k e (zero_not (zero_bits f h))

pub live_hit : (start : ℕ) (s : List ℤ) (k : ℕ) → (of_z w64 (get_or s (start + k) (pos 0)) ≡ 0 → ⊥) → true ≡ live start (k + 1) s
unfolding live
live_hit start s k h = sym (any_hit (λ k. ltb 0 (nat_abs (get_or s (start + k) (pos 0)))) k (k + 1) (omega arith) (live_not (get_or s (start + k) (pos 0)) h))

pub live_none : (start : ℕ) (s : List ℤ) → false ≡ live start 0 s
unfolding live any_below
live_none start s = refl

-- where the scan finds nothing, each number is 0
pub dead_at : (start n : ℕ) (s : List ℤ) → live start n s ≡ false → (k : ℕ) → k < n → get_or s (start + k) (pos 0) ≡ pos 0
unfolding live
dead_at start n s h k l = abs_zero (get_or s (start + k) (pos 0)) (any_at (λ k. ltb 0 (nat_abs (get_or s (start + k) (pos 0)))) n k h l)

-- a line that begins with a number is live; one that begins with 0 is live where the rest of it is
pub live_first : (start n : ℕ) (s : List ℤ) → 1 ≤ n → (of_z w64 (get_or s start (pos 0)) ≡ 0 → ⊥) → true ≡ live start n s
unfolding live
live_first start n s l h =
    let e : start + 0 ≡ start = omega arith in
    sym (any_hit (λ k. ltb 0 (nat_abs (get_or s (start + k) (pos 0)))) 0 n (omega arith) (rw e (live_not (get_or s start (pos 0)) h)))

rest_live : (start n : ℕ) (s : List ℤ) → get_or s start (pos 0) ≡ pos 0 → live (start + 1) n s ≡ live start (suc n) s
unfolding live any_below
rest_live start zero s h = let e : start + 0 ≡ start = omega arith in rw (e, h)
rest_live start (suc n) s h = let e : start + suc n ≡ start + 1 + n = omega arith in rw (e, rest_live start n s h)

pub live_rest : (start n : ℕ) (s : List ℤ) {b : Bool} → 1 ≤ n → SFits w64 (get_or s start (pos 0)) → of_z w64 (get_or s start (pos 0)) ≡ 0 → b ≡ live (start + 1) (n - 1) s
    → b ≡ live start n s
live_rest start n s l f h e =
    let q : suc (n - 1) ≡ n = omega arith in
    e ∙ rw q at (rest_live start (n - 1) s (zero_bits f h))

-- all bits or-ed together
pub counted : (n : ℕ) → not (eqb n 0) ≡ ltb 0 n
counted zero = refl
counted (suc n) = rw (ne_eqb (suc n) 0 (λ e. absurd (omega arith)), lt-ltb 0 (suc n) (omega arith))

pub or_live_none : (start : ℕ) (s : List ℤ) → ltb 0 0 ≡ live start 0 s
unfolding live any_below
or_live_none start s = refl

pub or_live_more : (start : ℕ) (s : List ℤ) (k all b : ℕ) → (b ≡ 0 → get_or s (start + k) (pos 0) ≡ pos 0) → (get_or s (start + k) (pos 0) ≡ pos 0 → b ≡ 0)
    → ltb 0 all ≡ live start k s → ltb 0 (bit_or all b) ≡ live start (k + 1) s
unfolding live
or_live_more start s k all zero f g h =
    let e : bit_or all 0 ≡ all = omega (arith, or_add_and all 0, and_le_r all 0) in
    any_next (λ k. ltb 0 (nat_abs (get_or s (start + k) (pos 0)))) k (ap (ltb 0) e ∙ h) (zero_not (f refl))
or_live_more start s k all (suc b) f g h =
    lt-ltb 0 (bit_or all (suc b)) (omega (arith, or_add_and all (suc b), and_le_l all (suc b)))
    ∙ sym (any_hit (λ k. ltb 0 (nat_abs (get_or s (start + k) (pos 0)))) k (k + 1) (omega arith) (not_zero (get_or s (start + k) (pos 0)) (λ e. absurd (omega (arith, g e)))))
  where
    not_zero : (z : ℤ) → (z ≡ pos 0 → ⊥) → ltb 0 (nat_abs z) ≡ true
    not_zero (pos zero) q = absurd (q refl)
    not_zero (pos (suc a)) q = lt-ltb 0 (suc a) (omega arith)
    not_zero (negsuc a) q = lt-ltb 0 (suc a) (omega arith)
