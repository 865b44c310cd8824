-- The 32-bit engine: the condition on its block, its answer and its promise. The condition is that of the recursive process alone, row by row and then column by column.
use Rattle.std.specs.Prelude.{◌≡◌, Bool, true, cond, not, ◌&&◌, List, [], ◌∷◌, ℕ, zero, suc, eqb, ℤ}
use Rattle.answers.specs.Answers.{Answer, number, lowest}
use Rattle.answers.specs.Sizes.{side}
use Rattle.blocks.specs.Block.{row, column, rows}
use Rattle.blocks.specs.Inverse.{Pass, apply, row_pass, column_pass, inverse2d}
use Rattle.weights.specs.Line.{kept_line}
use Rattle.idct.specs.Driver as D
use Rattle.idct.specs.Driver.{Input}

-- every k below n has p
unfoldable pub every : (ℕ → Bool) → ℕ → Bool
every p zero = true
every p (suc n) = p n && every p n

-- all rows of a block, and all columns
unfoldable pub kept_rows : Pass → ℕ → List ℤ → Bool
kept_rows p n s = every (λ i. kept_line p n (row (side n) i s)) (side n)

unfoldable pub kept_columns : Pass → ℕ → List ℤ → Bool
kept_columns p n s = every (λ j. kept_line p n (column (side n) j s)) (side n)

-- the condition: the rows of the block, then the columns of what the rows leave; the rounded output does not count
unfoldable pub within16 : ℕ → ℕ → Bool → List ℤ → Bool
within16 n tx_type lossless block =
    let p = row_pass tx_type lossless in
    kept_rows p n block && kept_columns (column_pass tx_type lossless) n (rows (apply p n) (side n) block)

-- the engine's own answer
unfoldable pub width_answer : Input → ℕ
width_answer u = lowest ((18, not (within16 u.n u.tx_type u.lossless u.block)) ∷ [])

-- the driver's answer, and after its last the engine's own
unfoldable pub answer_of32 : Input → ℕ
answer_of32 u = cond (eqb (D.answer_of u) 0) (width_answer u) (D.answer_of u)

-- the block afterwards: the driver's residual, and as it was under a refusal
unfoldable pub block_after32 : Input → List ℤ
block_after32 u = cond (eqb (answer_of32 u) 0) (inverse2d u.n u.tx_type u.lossless u.block) u.block

-- the promise: the answer, and the list afterwards
pub record Driven32 (u : Input) (answer : Answer) (after : List ℤ) : Type 0 where
  pub answered : number answer ≡ answer_of32 u
  pub written : after ≡ block_after32 u
