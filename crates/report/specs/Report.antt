-- Reconstruction with a report beside it: for each of the four sizes and each class how many tokens there were, and the sum of their magnitudes.
use Rattle.std.specs.Prelude.{◌≡◌, Bool, cond, ◌||◌, List, [], ◌∷◌, ℕ, ◌+◌, ◌*◌, ◌/◌, ◌%◌, ltb, eqb, ℤ, length, get_or}
use Rattle.whole.specs.Lists.{tabulate}
use Rattle.whole.specs.Tests.{any_below}
use Rattle.answers.specs.Answers.{Answer, number, lowest}
use Rattle.answers.specs.Limits.{codeable}
use Rattle.reconstruct.specs.Reconstruct as R
use Rattle.report.specs.Classes.{CLASSES, sum_below, shares, one, itself}

-- how many entries each list of a report has: size by size, class by class
abbrev pub ENTRIES : ℕ
ENTRIES = 44

-- the greatest total of all counts
abbrev pub TOTAL_LIMIT : ℕ
TOTAL_LIMIT = 4294967295

-- the entry of a size and a class
abbrev pub entry : ℕ → ℕ → ℕ
entry size c = size * CLASSES + c

-- what the call is given: a block as `reconstruct_block` is given it, and the report's two lists
pub record Input : Type 0 where
  pub block : R.Input
  pub counts : List ℕ
  pub sums : List ℕ

-- the total of all counts
unfoldable pub total : List ℕ → ℕ
total counts = sum_below (λ k. get_or counts k 0) ENTRIES

-- 15: with the block's tokens the total of all counts is past its limit
unfoldable pub bad_total : ℕ → List ℕ → Bool
bad_total tokens counts = ltb TOTAL_LIMIT (total counts + tokens)

-- 15: a sum above its count × 262,210, the greatest magnitude of a token
unfoldable pub bad_sums : List ℕ → List ℕ → Bool
bad_sums counts sums = any_below (λ k. ltb (get_or counts k 0 * codeable 12) (get_or sums k 0)) ENTRIES

-- the report's own answer
unfoldable pub report_answer : ℕ → List ℕ → List ℕ → ℕ
report_answer tokens counts sums = lowest ((15, bad_total tokens counts || bad_sums counts sums) ∷ [])

-- reconstruction's answer, and after its last the report's own
unfoldable pub answer_of : Input → ℕ
answer_of u = cond (eqb (R.answer_of u.block) 0) (report_answer (length u.block.tokens) u.counts u.sums) (R.answer_of u.block)

-- a list of the report after the first n tokens of a block: the classes of its size grow by what the tokens add, all else stays
unfoldable pub noted : (ℕ → ℕ) → ℕ → ℕ → List ℤ → List ℕ → List ℕ
noted f size n tokens list =
    tabulate (λ k. get_or list k 0 + cond (eqb (k / CLASSES) size) (shares f (k % CLASSES) n tokens) 0) (length list)

-- under a refusal a list stays as it was
unfoldable pub list_after : (ℕ → ℕ) → Input → List ℕ → List ℕ
list_after f u list = cond (eqb (answer_of u) 0) (noted f u.block.size (length u.block.tokens) u.block.tokens list) list

-- the samples afterwards: as `reconstruct_block` leaves them; under a refusal as they were
unfoldable pub samples_after : Input → List ℕ
samples_after u = cond (eqb (answer_of u) 0) (R.samples_after u.block) u.block.samples

-- the promise: the answer, the samples and the report afterwards
pub record Reported (u : Input) (answer : Answer) (samples counts sums : List ℕ) : Type 0 where
  pub answered : number answer ≡ answer_of u
  pub written : samples ≡ samples_after u
  pub counted : counts ≡ list_after one u u.counts
  pub summed : sums ≡ list_after itself u u.sums
