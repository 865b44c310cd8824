-- Numbers as bytes: what the library makes of them is what the definitions say.
use mathlib.Core.Path.{◌≡◌, ap, ◌∙◌}
use mathlib.Core.List.{[], ◌∷◌}
use Prim.Native.Nat.{ℕ, ◌/◌, ◌%◌, ◌^◌, ◌<◌}
use native.Mathlib.Omega.{arith}
use lib.IntN.{ℤ, pos, negsuc}
use lib.Signed.{mag}
use mir.Val.{of_z}
use Rattle.std.specs.Int.{w16, w32, to_le_bytes}
use Rattle.vbk_write.specs.Bytes.{two, word32, four}

pub two_is : (x : ℕ) → x < 2 ^ 16 → to_le_bytes w16 x ≡ two x
unfolding two
two_is x h =
    let e : x / 256 ^ 1 % 256 ≡ x / 256 = omega arith in
    ap (λ (b : ℕ). x % 256 ∷ b ∷ []) e

-- the word of a signed number
pub word_is : (z : ℤ) → mag z < 2 ^ 31 → of_z w32 z ≡ word32 z
unfolding word32
word_is (pos n) h = omega arith
word_is (negsuc n) h = omega arith

word_fits : (z : ℤ) → mag z < 2 ^ 31 → word32 z < 2 ^ 32
unfolding word32
word_fits (pos n) h = omega arith
word_fits (negsuc n) h = omega arith

bytes_of : (u : ℕ) → u < 2 ^ 32 → to_le_bytes w32 u ≡ u % 256 ∷ u / 256 % 256 ∷ u / 65536 % 256 ∷ u / 16777216 ∷ []
bytes_of u h =
    let e : u / 256 ^ 3 % 256 ≡ u / 16777216 = omega arith in
    ap (λ (b : ℕ). u % 256 ∷ u / 256 % 256 ∷ u / 65536 % 256 ∷ b ∷ []) e

pub four_is : (z : ℤ) → mag z < 2 ^ 31 → to_le_bytes w32 (of_z w32 z) ≡ four z
unfolding four
four_is z h = ap (to_le_bytes w32) (word_is z h) ∙ bytes_of (word32 z) (word_fits z h)
