-- What `vbk_write` promises: its answer, the file's length, and the buffer afterwards.
use Rattle.std.specs.Prelude.{◌≡◌, Bool, false, cond, not, ◌||◌, List, [], ◌∷◌, ◌++◌, ℕ, ◌+◌, ◌*◌, ltb, eqb, length, get_or, drop, Result, IfOk}
use Rattle.whole.specs.Tests.{any_below}
use Rattle.answers.specs.Answers.{lowest}
use Rattle.answers.specs.declared.Refusal.{Refusal}
use Rattle.answers.specs.Limits.{FILE_LIMIT}
use Rattle.answers.specs.Bad.{bad_depth, retired}
use Rattle.answers.specs.Sizes.{area}
use Rattle.vbk_read.specs.Header.{bad_area, number_in}
use Rattle.vbk_write.specs.Lent.{Lent, tokens_before, file_of}

-- 2 and 14: some number of the list is above `most`
unfoldable pub any_above : ℕ → List ℕ → Bool
any_above most list = any_below (λ k. ltb most (get_or list k 0)) (length list)

-- some number of the list is another than n
abbrev pub any_other : ℕ → List ℕ → Bool
any_other n [] = false
any_other n (m ∷ ms) = not (eqb m n) || any_other n ms

-- 6: the records' lists are not all of one length
unfoldable pub bad_lists : Lent → Bool
bad_lists l =
    any_other (length l.xs)
    (length l.ys
    ∷ length l.sizes
    ∷ length l.tx_types
    ∷ length l.lossless
    ∷ length l.dcs
    ∷ length l.acs
    ∷ length l.counts
    ∷ [])

-- 6: some record brings another number of tokens than its size has, n0²
unfoldable pub bad_counts : List ℕ → List ℕ → Bool
bad_counts sizes counts = any_below (λ k. not (eqb (get_or counts k 0) (area (get_or sizes k 0 + 2)))) (length counts)

-- 6: the counts do not add up to the tokens
unfoldable pub bad_total : List ℕ → ℕ → Bool
bad_total counts tokens = not (eqb (tokens_before counts (length counts)) tokens)

-- 6: lists that do not fit together
unfoldable pub misfit : Lent → Bool
misfit l =
    not (eqb (length l.samples) (l.width * l.height))
    || (bad_lists l || (bad_counts l.sizes l.counts || bad_total l.counts (length l.tokens)))

-- 13: width × height is not 1 to 4,096, or the file would be too long
unfoldable pub too_large : Lent → Bool
too_large l = bad_area (l.width * l.height) || ltb FILE_LIMIT (length (file_of l))

-- the lowest number that applies, but that 20 stands in the place of 1; last, 17: the buffer is too short for the file
unfoldable pub answer_of : Lent → ℕ → ℕ
answer_of l room =
    lowest
    ((1, bad_depth l.depth)
    ∷ (20, retired l.depth)
    ∷ (2, any_above 3 l.sizes)
    ∷ (6, misfit l)
    ∷ (13, too_large l)
    ∷ (14, any_above 1 l.lossless)
    ∷ (17, ltb room (length (file_of l)))
    ∷ [])

-- the promise: done, the file stands at the buffer's front and what is past it stays; refused, there is no file and nothing changes
pub record Wrote (l : Lent) (out : List ℕ) (r : Result ℕ Refusal) (after : List ℕ) : Type 0 where
  pub answered : number_in r ≡ answer_of l (length out)
  pub length_is : IfOk r (λ n. n ≡ length (file_of l))
  pub out_is : after ≡ cond (eqb (answer_of l (length out)) 0) (file_of l ++ drop (length (file_of l)) out) out
