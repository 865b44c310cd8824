-- What only the contracts of inner functions read: the answer as far as the shape gives it, and what the fast engine comes to.
use Rattle.std.specs.Prelude.{◌≡◌, Bool, cond, List, [], ◌∷◌, ℕ, ◌-◌, ℤ, length}
use Rattle.answers.specs.Answers.{Answer, number, lowest}
use Rattle.answers.specs.Limits.{COEF_LIMIT}
use Rattle.answers.specs.Sizes.{area}
use Rattle.answers.specs.Bad.{bad_side, bad_room, bad_lossless, bad_tx_type, any_beyond}
use Rattle.blocks.specs.Inverse.{inverse2d}
use Rattle.idct.specs.Driver.{Input}
use Rattle.idct.specs.Rows.{row_list}

-- 2, 3, 4 and 6: the tests before any number of the block is read; the size number is n − 2
unfoldable pub shape_of : ℕ → ℕ → ℕ → Bool → ℕ
shape_of count n tx_type lossless =
    lowest ((2, bad_side n) ∷ (3, bad_lossless lossless (n - 2)) ∷ (4, bad_tx_type lossless (n - 2) tx_type) ∷ (6, bad_room count n) ∷ [])

-- what the fast engine comes to on a block of a size and type that there are, and with room: the residual with its rows counted, or 9 and nothing done
pub record Tried (u : Input) (answer : Answer) (rows : ℕ) (after : List ℤ) : Type 0 where
  pub answered : number answer ≡ cond (any_beyond COEF_LIMIT (area u.n) u.block) 9 0
  pub written : after ≡ cond (any_beyond COEF_LIMIT (area u.n) u.block) u.block (inverse2d u.n u.tx_type u.lossless u.block)
  pub counted : rows ≡ cond (any_beyond COEF_LIMIT (area u.n) u.block) 0 (length (row_list u))
