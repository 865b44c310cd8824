-- What only the contracts of inner functions read: a block of which place 0 alone is live, and a number rounded or left.
use Rattle.std.specs.Prelude.{◌≡◌, Bool, false, cond, List, ℕ, ◌≤◌, eqb, ℤ}
use Rattle.whole.specs.Round.{Round2}
use Rattle.weights.specs.Inner.{total}

-- it is of type 0, and place 0 has all of its few magnitudes, which come to m
pub record Flat (s : List ℤ) (m tx_type : ℕ) (lossless : Bool) : Type 0 where
  pub lossy : lossless ≡ false
  pub zero_kind : tx_type ≡ 0
  pub few : m ≤ 31883
  pub first : total 1 s ≡ m

-- Round2 by k bits; no bits leave the number as it is
unfoldable pub rounded : ℤ → ℕ → ℤ
rounded x k = cond (eqb k 0) x (Round2 x k)
