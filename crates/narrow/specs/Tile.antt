-- The order in which a block of 16-bit numbers stands while it is transformed: by strips of eight columns, so that eight rows or eight columns can be
-- worked on side by side.
use Rattle.std.specs.Prelude.{List, ℕ, ◌+◌, ◌*◌, ◌/◌, ◌%◌, ℤ, pos, get_or}
use Rattle.whole.specs.Lists.{tabulate}

-- where row i, column j of a block stands
unfoldable pub place : ℕ → ℕ → ℕ → ℕ
place n0 i j = 8 * n0 * (j / 8) + 8 * i + j % 8

-- the block read row by row
unfoldable pub raster : ℕ → List ℤ → List ℤ
raster n0 z = tabulate (λ k. get_or z (place n0 (k / n0) (k % n0)) (pos 0)) (n0 * n0)
