-- The promise of the two-dimensional drivers: their answer, and the block afterwards.
use Rattle.std.specs.Prelude.{◌≡◌, Bool, cond, List, [], ◌∷◌, ℕ, ◌-◌, eqb, ℤ, length}
use Rattle.answers.specs.Answers.{Answer, number, lowest}
use Rattle.answers.specs.Limits.{COEF_LIMIT}
use Rattle.answers.specs.Sizes.{area}
use Rattle.answers.specs.Bad.{bad_side, bad_room, bad_lossless, bad_tx_type, any_beyond}
use Rattle.blocks.specs.Inverse.{inverse2d}

-- what a driver is given
pub record Input : Type 0 where
  pub block : List ℤ
  pub n : ℕ
  pub tx_type : ℕ
  pub lossless : Bool

-- the answer: 9 where a number of the block is beyond its limit
unfoldable pub answer_of : Input → ℕ
answer_of u =
    lowest
    (
    (2, bad_side u.n)
    ∷ (3, bad_lossless u.lossless (u.n - 2))
    ∷ (4, bad_tx_type u.lossless (u.n - 2) u.tx_type)
    ∷ (6, bad_room (length u.block) u.n)
    ∷ (9, any_beyond COEF_LIMIT (area u.n) u.block)
    ∷ []
    )

-- the block afterwards: the residual, and as it was under a refusal
unfoldable pub block_after : Input → List ℤ
block_after u = cond (eqb (answer_of u) 0) (inverse2d u.n u.tx_type u.lossless u.block) u.block

-- the promise: the answer, and the list afterwards
pub record Driven (u : Input) (answer : Answer) (after : List ℤ) : Type 0 where
  pub answered : number answer ≡ answer_of u
  pub written : after ≡ block_after u
