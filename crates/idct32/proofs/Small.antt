-- A block whose magnitudes come to 31883 or less meets the condition, so that no number of it needs a test on the way.
use mathlib.Core.Path.{◌≡◌}
use mathlib.Core.Bool.{Bool, true}
use mathlib.Core.List.{List}
use Prim.Native.Nat.{ℕ, ◌≤◌}
use lib.IntN.{ℤ}
use lib.ListN.{length}
use Rattle.answers.specs.Sizes.{side, area}
use Rattle.narrow.proofs.Kept.{and_true}
use Rattle.blocks.specs.Block.{rows}
use Rattle.blocks.specs.Inner.{Possible}
use Rattle.blocks.specs.Inverse.{apply, row_pass, column_pass}
use Rattle.blocks.proofs.Passes.{row_valid, column_valid}
use Rattle.weights.specs.Inner.{total}
use Rattle.weights.proofs.Blocks.{few_kept}
use Rattle.idct32.specs.Engine.{kept_rows, kept_columns, within16}
use Rattle.idct32.proofs.Scan.{every_all}

pub small_within16 : (n tx_type : ℕ) (lossless : Bool) (s : List ℤ) → Possible n tx_type lossless → area n ≤ length s → total (area n) s ≤ 31883 → within16 n tx_type lossless s ≡ true
unfolding within16 kept_rows kept_columns
small_within16 n tx_type lossless s h room few =
    let p = row_pass tx_type lossless in
    let q = column_pass tx_type lossless in
    let u = rows (apply p n) (side n) s in
    let a = few_kept p q n s h.least h.most (row_valid n tx_type lossless h) (column_valid n tx_type lossless h) room few in
    and_true (kept_rows p n s) (kept_columns q n u) (every_all _ (side n) a.of_row) (every_all _ (side n) a.of_column)
