-- The two-dimensional inverse transform. Specification §8.7.2: which transform each pass takes, the rounding, the two passes.
use Rattle.std.specs.Prelude.{Bool, true, false, cond, ◌||◌, List, ℕ, min, ◌+◌, eqb, ℤ}
use Rattle.whole.specs.Round.{Round2}
use Rattle.answers.specs.Sizes.{side}
use Rattle.dct.specs.Dct.{dct}
use Rattle.adst.specs.Adst.{adst}
use Rattle.wht.specs.Wht.{wht}
use Rattle.blocks.specs.Block.{rows_then_columns}

-- the transform of every line of a pass; the WHT at a shift
pub data Pass : Type 0 where
  Dct Adst : Pass
  Wht : ℕ → Pass

-- a line of n0 numbers through the transform of its pass
unfoldable pub apply : Pass → ℕ → List ℤ → List ℤ
apply Dct n t = dct n t
apply Adst n t = adst n t
apply (Wht shift) n t = wht shift t

-- the transform of a pass that is not lossless
abbrev pub lossy : Bool → Pass
lossy true = Dct
lossy false = Adst

-- types 0 and 1 have DCT rows; lossless is the WHT at shift 2
abbrev pub row_pass : ℕ → Bool → Pass
row_pass tx_type lossless = cond lossless (Wht 2) (lossy (eqb tx_type 0 || eqb tx_type 1))

-- types 0 and 2 have DCT columns; lossless is the WHT at shift 0
abbrev pub column_pass : ℕ → Bool → Pass
column_pass tx_type lossless = cond lossless (Wht 0) (lossy (eqb tx_type 0 || eqb tx_type 2))

-- after the columns Round2 by min(6, n + 2) bits: 4, 5, 6, 6
abbrev pub bits : ℕ → ℕ
bits n = min 6 (n + 2)

-- each number after the columns: rounded, unless lossless
unfoldable pub rounding : ℕ → Bool → ℤ → ℤ
rounding n true z = z
rounding n false z = Round2 z (bits n)

-- the residual of the block of n0 by n0 numbers at the front of the list, in its place
unfoldable pub inverse2d : ℕ → ℕ → Bool → List ℤ → List ℤ
inverse2d n tx_type lossless = rows_then_columns (apply (row_pass tx_type lossless) n) (apply (column_pass tx_type lossless) n) (rounding n lossless) (side n)
