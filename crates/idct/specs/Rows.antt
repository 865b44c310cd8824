-- The row pass row by row: which rows are transformed, in which order, and the promise of the driver that tells how many.
use Rattle.std.specs.Prelude.{◌≡◌, Bool, false, not, ◌&&◌, cond, List, [], ℕ, eqb, ℤ, length, Result, Ok, Err}
use Rattle.whole.specs.Steps.{run}
use Rattle.answers.specs.Answers.{Answer, number}
use Rattle.answers.specs.declared.Refusal.{Refusal}
use Rattle.row_pass.specs.declared.RowCount.{RowCount}
use Rattle.answers.specs.Sizes.{side, area}
use Rattle.blocks.specs.Block.{change_row, columns, only_dc}
use Rattle.blocks.specs.Inverse.{apply, row_pass, column_pass, rounding}
use Rattle.summary.specs.Summary.{set_rows, summary_of}
use Rattle.idct.specs.Driver.{Input, answer_of, block_after}

-- not lossless, of type 0, and nothing but place 0 is live, the block of zeros included
unfoldable pub dc_only : Input → Bool
dc_only u = not u.lossless && only_dc (area u.n) u.tx_type u.block

-- the rows of a block that is taken: those of its own summary, and none in the DC-only case
unfoldable pub row_list : Input → List ℕ
row_list u = cond (dc_only u) [] (set_rows (summary_of (side u.n) u.block))

-- the rows that are transformed: none under a refusal
unfoldable pub transformed : Input → List ℕ
transformed u = cond (eqb (answer_of u) 0) (row_list u) []

-- the row transform of exactly these rows, one after another, then all columns
unfoldable pub by_rows : Input → List ℕ → List ℤ
by_rows u rows =
    columns (apply (column_pass u.tx_type u.lossless) u.n) (rounding u.n u.lossless) (side u.n)
    (run (change_row (apply (row_pass u.tx_type u.lossless) u.n) (side u.n)) rows u.block)

-- what the driver that counts gives back: its answer, and how many rows it transformed, which under a refusal is none
abbrev pub answered_by : Result RowCount Refusal → Answer
answered_by (Ok count) = Ok tt
answered_by (Err refusal) = Err refusal

abbrev pub counted_by : Result RowCount Refusal → ℕ
counted_by (Ok count) = count.number
counted_by (Err refusal) = 0

-- the promise: the driver's, the number of row transforms, and, outside the DC-only case, that these are the rows
pub record Rowed (u : Input) (answer : Answer) (rows : ℕ) (after : List ℤ) : Type 0 where
  pub answered : number answer ≡ answer_of u
  pub written : after ≡ block_after u
  pub counted : rows ≡ length (transformed u)
  pub passed : answer_of u ≡ 0 → dc_only u ≡ false → after ≡ by_rows u (transformed u)
