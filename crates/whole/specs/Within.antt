-- Ranges of a number.
use Rattle.std.specs.Prelude.{ℕ, ◌≤◌, ℤ}
use Rattle.whole.specs.Parts.{P, N}

-- −m ≤ z ≤ m
pub record Within (m : ℕ) (z : ℤ) : Type 0 where
  pub hi : P z ≤ m
  pub lo : N z ≤ m
