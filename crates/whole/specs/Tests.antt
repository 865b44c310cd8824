-- Tests that are computed.
use Rattle.std.specs.Prelude.{Bool, false, ◌||◌, ℕ, zero, suc}

-- some k below n has p
unfoldable pub any_below : (ℕ → Bool) → ℕ → Bool
any_below p zero = false
any_below p (suc n) = p n || any_below p n
