-- What only the contracts of inner functions read: the row pass by a summary that is lent, and both passes by the block's own.
use Rattle.std.specs.Prelude.{◌≡◌, Bool, false, cond, List, ℕ, ◌≤◌, ℤ, pos, length, get_or}
use Rattle.whole.specs.Steps.{run}
use Rattle.answers.specs.Sizes.{side, area}
use Rattle.blocks.specs.Block.{change_row, only_dc}
use Rattle.blocks.specs.Inverse.{Pass, apply, inverse2d}
use Rattle.summary.specs.Summary.{those, is_set, live_rows}

-- T is 32 long, and zeros from place n0 on
pub record Clear (n0 : ℕ) (t : List ℤ) : Type 0 where
  pub wide : length t ≡ 32
  pub zeros : (k : ℕ) → n0 ≤ k → get_or t k (pos 0) ≡ pos 0

-- exactly the rows whose bit is set are transformed, one after another, and the count is how many they are; the summary is any
pub record Passed (p : Pass) (n summary : ℕ) (before after : List ℤ) (count : ℕ) : Type 0 where
  pub done : after ≡ run (change_row (apply p n) (side n)) (those (is_set summary) (side n)) before
  pub counted : count ≡ length (those (is_set summary) (side n))

-- the residual, and the count is how many rows are live
pub record Made (n tx_type : ℕ) (lossless : Bool) (before after : List ℤ) (count : ℕ) : Type 0 where
  pub written : after ≡ inverse2d n tx_type lossless before
  pub counted : count ≡ length (live_rows (side n) before)

-- the same of a block that is not lossless, but that no row is counted where only place 0 is live and the type is 0
pub record MadeOrFilled (n tx_type : ℕ) (before after : List ℤ) (count : ℕ) : Type 0 where
  pub written : after ≡ inverse2d n tx_type false before
  pub counted : count ≡ cond (only_dc (area n) tx_type before) 0 (length (live_rows (side n) before))
