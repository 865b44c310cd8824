-- The basis of the forward DCT in whole numbers, by cos64 of the specification §8.7.1.1, and the table of its 32 points.
use Rattle.std.specs.Prelude.{cond, List, ℕ, ◌+◌, ◌-◌, ◌*◌, ◌/◌, ◌%◌, ◌^◌, eqb, ℤ, pos}
use Rattle.whole.specs.Lists.{tabulate}
use Rattle.primitives.specs.Cosine.{Cos64}

-- entry (k, i) of the basis of 2^n points: coefficient k, number i
unfoldable pub basis_at : ℕ → ℕ → ℕ → ℤ
basis_at n k i = cond (eqb k 0) (pos 11585) (Cos64 (pos ((2 * i + 1) * k * 2 ^ (5 - n))))

-- the basis of 32 points, row by row
unfoldable pub table : List ℤ
table = tabulate (λ j. basis_at 5 (j / 32) (j % 32)) 1024
