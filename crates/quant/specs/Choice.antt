-- Which token is the best of a coefficient, by what the tokens dequantize to alone: no formula of the quantizer, and no limit of a coefficient.
use Rattle.std.specs.Prelude.{◌≡◌, ℕ, ◌+◌, ◌*◌, ◌≤◌, ℤ, nat_abs, ◌-ℤ◌}
use Rattle.quant.specs.Token.{dq_denom, dequant}

-- how far the token's value is from the coefficient
unfoldable pub distance : ℕ → ℤ → ℤ → ℤ → ℕ
distance size q coef token = nat_abs (coef -ℤ dequant size q token)

-- the token is codeable, its magnitude at most `most`, and no codeable token's value is nearer
pub record Nearest (size most : ℕ) (q coef token : ℤ) : Type 0 where
  pub coded : nat_abs token ≤ most
  pub near : (other : ℤ) → nat_abs other ≤ most → distance size q coef token ≤ distance size q coef other

-- and of the codeable tokens that are equally near none has a smaller magnitude
pub record Least (size most : ℕ) (q coef token : ℤ) : Type 0 where
  pub nearest : Nearest size most q coef token
  pub least : (other : ℤ) → nat_abs other ≤ most → distance size q coef other ≡ distance size q coef token → nat_abs token ≤ nat_abs other

-- or none has a greater one
pub record Greatest (size most : ℕ) (q coef token : ℤ) : Type 0 where
  pub nearest : Nearest size most q coef token
  pub greatest : (other : ℤ) → nat_abs other ≤ most → distance size q coef other ≡ distance size q coef token → nat_abs other ≤ nat_abs token

-- an exact half: the coefficient's magnitude, doubled at 32 by 32, is midway between t and t + 1 quantizers
abbrev pub Half : ℕ → ℤ → ℤ → ℕ → Type 0
Half size q coef t = 2 * (nat_abs coef * dq_denom size) ≡ (2 * t + 1) * nat_abs q
