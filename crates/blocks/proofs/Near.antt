-- Numbers, each plus a limit, or-ed together: what the whole says of each.
use mathlib.Core.Path.{◌≡◌, refl, ap}
use mathlib.Core.List.{List}
use mathlib.Core.Logic.{⊎_elim}
use Prim.Native.Nat.{ℕ, ◌+◌, ◌%◌, ◌^◌, ◌≤◌, ◌<◌}
use native.Mathlib.Nat.{eq-or-lt_of_le}
use native.Mathlib.Omega.{arith}
use lib.Bits.{bit_or, or_add_and, and_le_l, and_le_r}
use lib.IntN.{ℤ, pos, negsuc, nat_abs}
use lib.ListN.{get_or}
use mir.Syntax.{w64}
use mir.Val.{SFits, of_z}

pub abs_most : (z : ℤ) → SFits w64 z → nat_abs z ≤ 2 ^ 63
abs_most (pos n) f = omega (arith, f.sfits)
abs_most (negsuc n) f = omega (arith, f.sfits)

-- the bits of a number are none for 0 alone
pub no_bits : (z : ℤ) → SFits w64 z → of_z w64 z ≡ 0 → z ≡ pos 0
no_bits (pos n) f e = ap pos e
no_bits (negsuc n) f e = absurd (omega (arith, f.sfits, e))

pub bits_of_none : (z : ℤ) → z ≡ pos 0 → of_z w64 z ≡ 0
bits_of_none z e = rw e

-- a number plus a limit, on 64 bits
pub plus_most : (z : ℤ) (most : ℕ) → SFits w64 z → most ≤ 2 ^ 61 → (most + of_z w64 z) % 2 ^ 64 < most + most → nat_abs z ≤ most
plus_most (pos n) most f m h = omega (arith, f.sfits)
plus_most (negsuc n) most f m h = omega (arith, f.sfits)

-- no part is above the whole
pub or_left : (a b : ℕ) → a ≤ bit_or a b
or_left a b = omega (arith, or_add_and a b, and_le_r a b)

pub or_right : (a b : ℕ) → b ≤ bit_or a b
or_right a b = omega (arith, or_add_and a b, and_le_l a b)

-- one more
pub plus_most_more : (s : List ℤ) (start most k all m : ℕ) → (m < most + most → nat_abs (get_or s (start + k) (pos 0)) ≤ most)
    → (all < most + most → (j : ℕ) → j < k → nat_abs (get_or s (start + j) (pos 0)) ≤ most)
    → bit_or all m < most + most → (j : ℕ) → j < k + 1 → nat_abs (get_or s (start + j) (pos 0)) ≤ most
plus_most_more s start most k all m f g h j l = ⊎_elim
    (λ (q : j ≡ k). rw q (f (omega (arith, or_right all m))))
    (λ (q : j < k). g (omega (arith, or_left all m)) j q)
    (eq-or-lt_of_le (omega arith))
