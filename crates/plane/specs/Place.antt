-- Where a plane's samples stand in the list of them: row by row, each row `stride` long. Past the width a row is padding.
use Rattle.std.specs.Prelude.{◌≡◌, List, ℕ, min, ◌+◌, ◌-◌, ◌*◌, ◌/◌, ◌%◌, ◌≤◌, length}
use Rattle.answers.specs.Limits.{SIDE_LIMIT}
use Rattle.plane.specs.declared.Plane.{Plane}

-- the place of the sample of a row and column
abbrev pub place_of : Plane → ℕ → ℕ → ℕ
place_of p row column = row * p.stride + column

-- the row of a place
abbrev pub row_of : Plane → ℕ → ℕ
row_of p k = k / p.stride

-- the column of a place
abbrev pub column_of : Plane → ℕ → ℕ
column_of p k = k % p.stride

-- how many samples are lent, padding included
abbrev pub area_of : Plane → ℕ
area_of p = p.stride * p.height

-- these are the samples of such a plane
pub record SamplesOf (p : Plane) (samples : List ℕ) : Type 0 where
  pub wide : p.width ≤ p.stride
  pub long : p.stride ≤ SIDE_LIMIT
  pub high : p.height ≤ SIDE_LIMIT
  pub all : length samples ≡ area_of p

-- of n rows or columns from `start` on, how many lie in a plane that has `count` of them
abbrev pub cut : ℕ → ℕ → ℕ → ℕ
cut count start n = min n (count - start)

-- how many samples a block of n0 × n0 at (x, y) writes: cut rows × cut columns
unfoldable pub written : Plane → ℕ → ℕ → ℕ → ℕ
written p x y n0 = cut p.height y n0 * cut p.width x n0
