-- A history of calls on one report, and the plain recount over its blocks.
use Rattle.std.specs.Prelude.{◌≡◌, Bool, cond, ◌&&◌, List, [], ◌∷◌, ℕ, ◌+◌, ◌*◌, ◌<◌, eqb, length, get_or, replicate}
use Rattle.answers.specs.Answers.{Answer, number}
use Rattle.answers.specs.Sizes.{area}
use Rattle.reconstruct.specs.Reconstruct as R
use Rattle.report.specs.Classes.{CLASSES, sum_below, shares, one, itself}
use Rattle.report.specs.Report.{ENTRIES, entry, Reported}

-- a call as the history has it: the block that it was given, and its answer
pub record Call : Type 0 where
  pub block : R.Input
  pub answer : Answer

-- the report of no token
abbrev pub empty : List ℕ
empty = replicate ENTRIES 0

-- calls one after the other, each with a promise kept, from one report to another; planes, tokens and all else are any
pub data History : List ℕ → List ℕ → List Call → List ℕ → List ℕ → Type 0 where
  none : {counts sums : List ℕ} → History counts sums [] counts sums
  next : {counts sums counts₁ sums₁ counts₂ sums₂ samples : List ℕ} {c : Call} {cs : List Call}
      → Reported (record { block = c.block; counts = counts; sums = sums }) c.answer samples counts₁ sums₁
      → History counts₁ sums₁ cs counts₂ sums₂
      → History counts sums (c ∷ cs) counts₂ sums₂

-- a block of the size that was answered 0
unfoldable pub is_done : ℕ → Call → Bool
is_done size c = eqb (number c.answer) 0 && eqb size c.block.size

-- how many of them there are
unfoldable pub blocks : ℕ → List Call → ℕ
blocks size [] = 0
blocks size (c ∷ cs) = cond (is_done size c) 1 0 + blocks size cs

-- what all their tokens add to a class
unfoldable pub recount : (ℕ → ℕ) → ℕ → ℕ → List Call → ℕ
recount f size class [] = 0
recount f size class (c ∷ cs) =
    cond (is_done size c) (shares f class (length c.block.tokens) c.block.tokens) 0 + recount f size class cs

-- from one report to another: every count and sum grows by the recount's, and the counts of a size by n0² for each block
pub record Added (cs : List Call) (counts sums counts' sums' : List ℕ) : Type 0 where
  pub counts_grow : (size class : ℕ) → size < 4 → class < CLASSES → get_or counts' (entry size class) 0 ≡ get_or counts (entry size class) 0 + recount one size class cs
  pub sums_grow : (size class : ℕ) → size < 4 → class < CLASSES → get_or sums' (entry size class) 0 ≡ get_or sums (entry size class) 0 + recount itself size class cs
  pub add_up : (size : ℕ) → size < 4
      → sum_below (λ class. get_or counts' (entry size class) 0) CLASSES ≡ sum_below (λ class. get_or counts (entry size class) 0) CLASSES + area (size + 2) * blocks size cs

-- from no token: a report is what the history's blocks give: every count and sum the recount's, and the counts of a size n0² for each block
pub record Recounted (cs : List Call) (counts sums : List ℕ) : Type 0 where
  pub counts_are : (size class : ℕ) → size < 4 → class < CLASSES → get_or counts (entry size class) 0 ≡ recount one size class cs
  pub sums_are : (size class : ℕ) → size < 4 → class < CLASSES → get_or sums (entry size class) 0 ≡ recount itself size class cs
  pub add_up : (size : ℕ) → size < 4 → sum_below (λ class. get_or counts (entry size class) 0) CLASSES ≡ area (size + 2) * blocks size cs
