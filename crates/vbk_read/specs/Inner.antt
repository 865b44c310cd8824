-- What only the contracts inside this crate read.
use Rattle.std.specs.Prelude.{◌≡◌, ℕ}

-- the number x was read, and the place past it is `past`
pub record Took {A : Type 0} (x : A) (past : ℕ) (value : A) (next : ℕ) : Type 0 where
  pub value_is : value ≡ x
  pub next_is : next ≡ past
