-- Rows and lines of a clip's text.
use Rattle.std.specs.Prelude.{cond, ℕ, ◌+◌, eqb, Option, Some, None}
use Rattle.clip_told.specs.declared.Row.{Row}
use Rattle.clip_told.specs.declared.Row.TheVariants.{Samples, Record, Tokens}

-- which row a letter names: S samples, R a record, K more tokens of the last record
unfoldable pub letter_row : ℕ → Option Row
letter_row b = cond (eqb b 83) (Some Samples) (cond (eqb b 82) (Some Record) (cond (eqb b 75) (Some Tokens) None))

-- lines are counted one by one, as far as 64 bits go
unfoldable pub line_after : ℕ → ℕ
line_after n = cond (eqb n 18446744073709551615) n (n + 1)
