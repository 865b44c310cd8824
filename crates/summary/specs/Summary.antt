-- The row summary of a block: a number whose bit i is set where row i has a number that is not 0. What is asked of it, and the full scan that it stands for.
use Rattle.std.specs.Prelude.{Bool, cond, List, [], ◌∷◌, ℕ, ◌+◌, ◌*◌, ◌/◌, ◌%◌, ◌^◌, eqb, ℤ, length, Option, Some, None, Result, Ok, Err}
use Rattle.whole.specs.Steps.{each, when}
use Rattle.answers.specs.declared.Refusal.{Refusal}
use Rattle.answers.specs.declared.Refusal.TheVariants.{Size, Length}
use Rattle.answers.specs.Bad.{bad_side, bad_room}
use Rattle.answers.specs.Sizes.{side}
use Rattle.blocks.specs.Block.{live}

-- of 0, 1, .., n - 1 those that have p, in this order
unfoldable pub those : (ℕ → Bool) → ℕ → List ℕ
those p n = each n (λ i. when (p i) (i ∷ []))

-- the number whose bits are these, each of them once
unfoldable pub mask : List ℕ → ℕ
mask [] = 0
mask (i ∷ is) = 2 ^ i + mask is

-- bit i of m is set
unfoldable pub is_set : ℕ → ℕ → Bool
is_set m i = eqb (m / 2 ^ i % 2) 1

-- the rows of a summary: those whose bit is set
unfoldable pub set_rows : ℕ → List ℕ
set_rows m = those (is_set m) 32

-- the full scan: the rows of a block of n0 by n0 numbers that have a number that is not 0
unfoldable pub live_rows : ℕ → List ℤ → List ℕ
live_rows n0 s = those (λ i. live (i * n0) n0 s) n0

-- the summary of a block
unfoldable pub summary_of : ℕ → List ℤ → ℕ
summary_of n0 s = mask (live_rows n0 s)

-- the first of a list of rows; an empty one has none
abbrev pub first_of : List ℕ → Option ℕ
first_of [] = None
first_of (i ∷ is) = Some i

-- the last
abbrev pub last_of : List ℕ → Option ℕ
last_of [] = None
last_of (i ∷ []) = Some i
last_of (i ∷ (j ∷ is)) = last_of (j ∷ is)

-- what row_summary gives: 2, 6, or the summary
unfoldable pub summarized : ℕ → List ℤ → Result ℕ Refusal
summarized n s = cond (bad_side n) (Err Size) (cond (bad_room (length s) n) (Err Length) (Ok (summary_of (side n) s)))
