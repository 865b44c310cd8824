-- Laws of the counts: what the scan over them finds, and the sizes that passed.
use mathlib.Core.Path.{◌≡◌, refl, sym}
use mathlib.Core.Bool.{Bool, true, false, not, ◌||◌}
use mathlib.Core.Logic.{⊎_elim}
use mathlib.Core.List.{List}
use Prim.Native.Nat.{ℕ, zero, suc, ◌+◌, ◌≤◌, ◌<◌}
use native.Mathlib.Nat as NatL
use native.Mathlib.Numerals.{add-one}
use native.Mathlib.Omega.{arith}
use borrow.Author.Tests.{lt-ltb, ltb-false, ne_eqb}
use lib.Dec.{ltb, eqb}
use lib.ListN.{length, get_or}
use Rattle.whole.specs.Tests.{any_below}
use Rattle.whole.proofs.Tests.{any_at, any_hit}
use Rattle.answers.specs.Limits.{FILE_LIMIT}
use Rattle.answers.specs.Sizes.{area}
use Rattle.vbk_write.specs.Lent.{tokens_before}
use Rattle.vbk_write.specs.Promises.{any_above, bad_counts, bad_total}

-- no number of the list is above `most`
pub none_above : (most : ℕ) (list : List ℕ) (i : ℕ) → any_above most list ≡ false → i < length list → get_or list i 0 ≤ most
unfolding any_above
none_above most list i h l = ltb-false most (get_or list i 0) (any_at (λ k. ltb most (get_or list k 0)) (length list) i h l)

pub or_false : (b : Bool) → b || false ≡ b
or_false true = refl
or_false false = refl

or_true : (b : Bool) {t : Bool} → t ≡ true → true ≡ b || t
or_true true e = refl
or_true false e = sym e

-- a file that is too long by a part of it
pub by_length : (b : Bool) (n : ℕ) → 65535 < n → true ≡ b || ltb FILE_LIMIT n
by_length b n h = or_true b (lt-ltb 65535 n h)

-- the tokens of the first records are no more than those of all
pub before_more : (counts : List ℕ) (i n : ℕ) → i < n → tokens_before counts i + get_or counts i 0 ≤ tokens_before counts n
unfolding tokens_before
before_more counts i zero h = absurd (omega arith)
before_more counts i (suc n) h =
    ⊎_elim (λ (e : i ≡ n). rw e (NatL.le_refl (tokens_before counts n + get_or counts n 0)))
    (λ l. omega (arith, before_more counts i n l))
    (NatL.eq-or-lt_of_le {n = i} {m = n} (omega arith))

pub before_next : (counts : List ℕ) (i : ℕ) {t u : ℕ} → t ≡ tokens_before counts i → u ≡ get_or counts i 0 → t + u ≡ tokens_before counts (i + 1)
unfolding tokens_before
before_next counts i p q = rw (add-one, p, q)

module _ (sizes counts : List ℕ) (tokens : ℕ) where
  -- a record with another number of tokens than its size has
  pub wrong_count : (i : ℕ) → i < length counts → (get_or counts i 0 ≡ area (get_or sizes i 0 + 2) → ⊥) → true ≡ bad_counts sizes counts || bad_total counts tokens
  unfolding bad_counts
  wrong_count i l h =
      let e = any_hit (λ k. not (eqb (get_or counts k 0) (area (get_or sizes k 0 + 2)))) i (length counts) l (rw (ne_eqb (get_or counts i 0) (area (get_or sizes i 0 + 2)) h)) in
      rw e

  -- more tokens than there are
  pub too_many : (i : ℕ) → i < length counts → tokens < tokens_before counts i + get_or counts i 0 → true ≡ bad_counts sizes counts || bad_total counts tokens
  unfolding bad_total
  too_many i l h =
      or_true (bad_counts sizes counts)
      (rw (ne_eqb (tokens_before counts (length counts)) tokens (λ e. absurd (omega (arith, before_more counts i (length counts) l)))))

  -- no record with another number
  pub right_counts : (total : ℕ) → any_below (λ k. not (eqb (get_or counts k 0) (area (get_or sizes k 0 + 2)))) (length counts) ≡ false → total ≡ tokens_before counts (length counts)
      → not (eqb total tokens) ≡ bad_counts sizes counts || bad_total counts tokens
  unfolding bad_counts bad_total
  right_counts total h e = rw (h, e)
