-- A row of a summary as C is told it.
use Rattle.std.specs.Prelude.{ℕ, ℤ, pos, negsuc, Option, Some, None}

-- a row as C has it: −1 where there is none
abbrev pub row_number : Option ℕ → ℤ
row_number None = negsuc 0
row_number (Some i) = pos i
