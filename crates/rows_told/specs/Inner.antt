-- What only the contracts of inner functions read.
use Rattle.std.specs.Prelude.{ℕ, Option, Some, None}

-- the place of a row, 0 where there is none
abbrev pub place_of : Option ℕ → ℕ
place_of None = 0
place_of (Some i) = i
