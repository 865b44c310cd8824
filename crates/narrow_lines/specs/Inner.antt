-- What only the contracts of inner functions read: the rows or the columns of a block, eight after eight. Where `down` is true a line is a column, else a row.
use Rattle.std.specs.Prelude.{◌≡◌, Bool, true, false, List, ℕ, ◌+◌, ◌*◌, ◌%◌, ◌≤◌, ◌<◌, ℤ, pos, length, get_or}
use Rattle.whole.specs.Inner.{times}
use Rattle.answers.specs.Sizes.{side}
use Rattle.blocks.specs.Block.{line}
use Rattle.blocks.specs.Inner.{change_line}
use Rattle.blocks.specs.Inverse.{Pass, apply}
use Rattle.narrow.specs.Tile.{place, raster}
use Rattle.weights.specs.Inner.{Keeps}

-- where line i begins in a block that is read row by row
abbrev pub start : Bool → ℕ → ℕ → ℕ
start true n0 i = i
start false n0 i = i * n0

-- how far its numbers are apart
abbrev pub gap : Bool → ℕ → ℕ
gap true n0 = n0
gap false n0 = 1

-- where number k of it stands by strips of eight columns
abbrev pub spot : Bool → ℕ → ℕ → ℕ → ℕ
spot true n0 i k = place n0 k i
spot false n0 i k = place n0 i k

-- line i
abbrev pub line_of : Bool → ℕ → ℕ → List ℤ → List ℤ
line_of down n0 i = line (start down n0 i) (gap down n0) n0

-- a block of whole strips
abbrev pub Whole : ℕ → Type 0
Whole n0 = (n0 % 8 ≡ 0) × (n0 ≤ 32)

-- what stands in z by strips of eight columns is s, row by row
pub record Holds (n0 : ℕ) (s z : List ℤ) : Type 0 where
  pub long : length z ≡ 1024
  pub is : raster n0 z ≡ s

-- m lines from `at` on through the transform, one after the other
unfoldable pub strip : Bool → Pass → ℕ → ℕ → ℕ → List ℤ → List ℤ
strip down p n at m = times m (λ j. change_line (apply p n) (λ z. z) (start down (side n) (at + j)) (gap down (side n)) (side n))

-- the first m lines
unfoldable pub first : Bool → Pass → ℕ → ℕ → List ℤ → List ℤ
first down p n m = times m (λ i. change_line (apply p n) (λ z. z) (start down (side n) i) (gap down (side n)) (side n))

-- each of eight lines from `at` on stays within 16 bits on its way
pub record StripKeeps (down : Bool) (p : Pass) (n at : ℕ) (s : List ℤ) : Type 0 where
  pub each : (j : ℕ) → j < 8 → Keeps p n (line_of down (side n) (at + j) s)

-- zeros from place m on
abbrev pub Dead : ℕ → List ℤ → Type 0
Dead m s = (k : ℕ) → m ≤ k → get_or s k (pos 0) ≡ pos 0
