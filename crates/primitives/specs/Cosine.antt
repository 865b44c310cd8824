-- cos64 and sin64 of any whole angle. Specification §8.7.1.1.
use Rattle.std.specs.Prelude.{cond, List, [], ◌∷◌, ℕ, ◌-◌, ◌%◌, leb, ℤ, pos, negsuc, neg_ℤ, ◌-ℤ◌, get_or}

-- the quarter wave: entry i is round(16384 cos(i π / 64))
abbrev pub cos64_lookup : List ℤ
cos64_lookup =
    pos 16384 ∷ pos 16364 ∷ pos 16305 ∷ pos 16207 ∷ pos 16069 ∷ pos 15893 ∷ pos 15679 ∷ pos 15426 ∷ pos 15137 ∷ pos 14811 ∷ pos 14449
    ∷ pos 14053 ∷ pos 13623 ∷ pos 13160 ∷ pos 12665 ∷ pos 12140 ∷ pos 11585 ∷ pos 11003 ∷ pos 10394 ∷ pos 9760 ∷ pos 9102 ∷ pos 8423
    ∷ pos 7723 ∷ pos 7005 ∷ pos 6270 ∷ pos 5520 ∷ pos 4756 ∷ pos 3981 ∷ pos 3196 ∷ pos 2404 ∷ pos 1606 ∷ pos 804 ∷ pos 0 ∷ []

-- the remainder of z by m that is not negative
abbrev pub modulo : ℕ → ℤ → ℕ
modulo m (pos a) = a % m
modulo m (negsuc a) = m - 1 - a % m

-- the whole wave, at an angle below 128
unfoldable pub cos_at : ℕ → ℤ
cos_at a =
    cond (leb a 32) (get_or cos64_lookup a (pos 0))
    (cond (leb a 64) (neg_ℤ (get_or cos64_lookup (64 - a) (pos 0)))
    (cond (leb a 96) (neg_ℤ (get_or cos64_lookup (a - 64) (pos 0))) (get_or cos64_lookup (128 - a) (pos 0))))

-- cos64(angle), the wave at the remainder of the angle by 128
unfoldable pub Cos64 : ℤ → ℤ
Cos64 angle = cos_at (modulo 128 angle)

-- sin64(angle) = cos64(angle - 32)
unfoldable pub Sin64 : ℤ → ℤ
Sin64 angle = Cos64 (angle -ℤ pos 32)
