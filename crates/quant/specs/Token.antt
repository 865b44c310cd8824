-- One number between tokens and coefficients. Specification §8.6.2 for dequantizing; the quantizer chooses the token that dequantizes nearest.
use Rattle.std.specs.Prelude.{◌&&◌, cond, ℕ, min, ◌+◌, ◌-◌, ◌*◌, ◌/◌, ◌%◌, eqb, ℤ, pos, negsuc, neg_ℤ, nat_abs, ◌*ℤ◌}
use Rattle.std.specs.Int.Signed.{quot_z}

-- dq_denom, step 1 of §8.6.2: 2 at 32 by 32
abbrev pub dq_denom : ℕ → ℕ
dq_denom size = cond (eqb size 3) 2 1

-- step 2 of §8.6.2: token × quantizer, divided by dq_denom toward zero
unfoldable pub dequant : ℕ → ℤ → ℤ → ℤ
dequant size q token = quot_z (token *ℤ q) (pos (dq_denom size))

-- what a rule takes off before the division: under rule 1 an exact half falls short by 1, under rule 2 it does not
abbrev pub short : ℕ → ℕ
short rule = cond (eqb rule 2) 0 1

-- a / q to the nearest. Rule 1 is floor((2a + q − 1) / (2q)), an exact half toward zero; rule 2 is floor((2a + q) / (2q)), a half away from it
unfoldable pub rounded : ℕ → ℕ → ℕ → ℕ
rounded rule q a = (2 * a + (q - short rule)) / (2 * q)

-- the sign of z on a magnitude
abbrev pub with_sign : ℤ → ℕ → ℤ
with_sign (pos a) m = pos m
with_sign (negsuc a) m = neg_ℤ (pos m)

-- the magnitude, doubled at 32 by 32, over the quantizer and rounded by the rule; at most `most`; the sign kept
unfoldable pub quantize : ℕ → ℕ → ℕ → ℤ → ℤ → ℤ
quantize rule size most q coef = with_sign coef (min most (rounded rule (nat_abs q) (nat_abs coef * dq_denom size)))

-- the token that dequantizing and quantizing give back: itself, but that an odd one under quantizer 1 at 32 by 32 is one nearer zero
unfoldable pub given_back : ℕ → ℤ → ℤ → ℤ
given_back size q token =
    cond (eqb size 3 && (eqb (nat_abs q) 1 && eqb (nat_abs token % 2) 1)) (with_sign token (nat_abs token - 1)) token
