-- What an exported call promises: the number of its answer, and what it was lent afterwards, both by the definitions of the call that it hands on to.
use Rattle.std.specs.Prelude.{◌≡◌, ℕ}

-- the promise of a call that is given u: the number r of its answer, and what it was lent, afterwards
pub record Told {Given Lent : Type 0} (answer : Given → ℕ) (after : Given → Lent) (u : Given) (r : ℕ) (left : Lent) : Type 0 where
  pub answered : r ≡ answer u
  pub written : left ≡ after u
