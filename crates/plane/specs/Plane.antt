-- A block added back into a plane, cut to it. Specification §8.6.2, step 4.
use Rattle.std.specs.Prelude.{Bool, cond, ◌&&◌, List, ℕ, min, ◌+◌, ◌-◌, leb, ltb, ℤ, pos, ◌+ℤ◌, length, get_or}
use Rattle.whole.specs.Lists.{tabulate}
use Rattle.whole.specs.Parts.{P}
use Rattle.plane.specs.declared.Plane.{Plane}
use Rattle.plane.specs.Place.{row_of, column_of, cut}

-- clipped to 0 .. top; the positive part of a negative number is 0
abbrev pub clip : ℕ → ℤ → ℕ
clip top z = min top (P z)

-- v is one of the n numbers from `start` on
unfoldable pub inside : ℕ → ℕ → ℕ → Bool
inside start n v = leb start v && ltb v (start + n)

-- the sample at k, of a row and column, after `rows` rows of `cols` samples at (x, y) got the residuals r i j
unfoldable pub sample_after : ℕ → (ℕ → ℕ → ℤ) → ℕ → ℕ → ℕ → ℕ → List ℕ → ℕ → ℕ → ℕ → ℕ
sample_after top r x y rows cols samples row column k =
    cond (inside y rows row && inside x cols column)
    (clip top (pos (get_or samples k 0) +ℤ r (row - y) (column - x)))
    (get_or samples k 0)

-- the samples after a block of n0 × n0 residuals at (x, y): inside the block cut to the plane the clipped sum, elsewhere what stood there
unfoldable pub plane_after : Plane → ℕ → ℕ → ℕ → ℕ → (ℕ → ℕ → ℤ) → List ℕ → List ℕ
plane_after p top x y n0 r samples =
    tabulate (λ k. sample_after top r x y (cut p.height y n0) (cut p.width x n0) samples (row_of p k) (column_of p k) k) (length samples)
