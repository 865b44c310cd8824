-- A GOOD REPORT STAYS GOOD: no call leaves a sum past its count × 262,210 where none was, and the total of all counts grows by the block's tokens at most.
use mathlib.Core.Path.{◌≡◌, ap, ◌∙◌}
use mathlib.Core.Bool.{Bool, true, false, cond}
use mathlib.Core.List.{List}
use Prim.Native.Nat.{ℕ, zero, suc, ◌+◌, ◌*◌, ◌/◌, ◌%◌, ◌≤◌, ◌<◌}
use native.Mathlib.Decide.{ℕ_discrete}
use native.Mathlib.Nat as NatL
use native.Mathlib.Numerals.{add-one}
use native.Mathlib.Omega.{arith}
use borrow.Author.Tests.{le-ltb, ltb-false, eq-eqb, ne_eqb}
use lib.Dec.{eqb}
use lib.IntN.{ℤ, pos, nat_abs}
use lib.ListN.{length, get_or}
use Rattle.whole.specs.Tests.{any_below}
use Rattle.whole.proofs.Lists.{get_d_tabulate}
use Rattle.whole.proofs.Tests.{any_at, any_none, any_more}
use Rattle.answers.specs.Answers.{Answer}
use Rattle.answers.specs.Limits.{codeable}
use Rattle.report.specs.Classes.{in_class, sum_below, share, shares, one, itself}
use Rattle.report.proofs.OneClass.{shares_none, shares_more, sum_plus, sum_same, all_counted}
use Rattle.report.specs.Report.{ENTRIES, Input, total, bad_sums, answer_of, noted, list_after, Reported}
use Rattle.report.proofs.Table.{good}
use Rattle.report.proofs.History.{own_zero}

-- ---- a class's sum of magnitudes against its count
share_least : (c m : ℕ) (t : ℤ) → nat_abs t ≤ m → share itself c t ≤ share one c t * m
unfolding share
share_least c m t h = go (in_class c (nat_abs t))
  where
    go : (b : Bool) → cond b (nat_abs t) 0 ≤ cond b 1 0 * m
    go true = omega arith
    go false = omega arith

shares_least : (c m n : ℕ) (tokens : List ℤ) → ((i : ℕ) → i < n → nat_abs (get_or tokens i (pos 0)) ≤ m) → shares itself c n tokens ≤ shares one c n tokens * m
shares_least c m zero tokens h = omega (arith, shares_none itself c tokens)
shares_least c m (suc n) tokens h =
    let t = get_or tokens n (pos 0) in
    let a = rw add-one at (shares_more itself c n tokens) in
    let b = rw add-one at (shares_more one c n tokens) in
    let d : shares one c (suc n) tokens * m ≡ shares one c n tokens * m + share one c t * m = ap (λ (x : ℕ). x * m) b ∙ NatL.add-mul (shares one c n tokens) (share one c t) m in
    omega (arith, a, d, shares_least c m n tokens (λ i l. h i (omega arith)), share_least c m t (h n (omega arith)))

pub none_below : (p : ℕ → Bool) (n : ℕ) → ((k : ℕ) → k < n → p k ≡ false) → any_below p n ≡ false
none_below p zero h = any_none p
none_below p (suc n) h = rw add-one at (any_more p n (none_below p n (λ k l. h k (omega arith))) (h n (omega arith)))

-- ---- all entries together
in_size : (g : ℕ → ℕ) (size : ℕ) → size ≤ 3 → sum_below (λ k. cond (eqb (k / 11) size) (g (k % 11)) 0) ENTRIES ≡ sum_below g 11
unfolding sum_below
in_size g zero h = omega arith
in_size g (suc zero) h = omega arith
in_size g (suc (suc zero)) h = omega arith
in_size g (suc (suc (suc zero))) h = omega arith
in_size g (suc (suc (suc (suc n)))) h = absurd (omega arith)

module _ (size n : ℕ) (tokens : List ℤ) where
  abbrev added : (ℕ → ℕ) → ℕ → ℕ
  added f k = cond (eqb (k / 11) size) (shares f (k % 11) n tokens) 0

  entry_is : (f : ℕ → ℕ) (list : List ℕ) → length list ≡ ENTRIES → (k : ℕ) → k < ENTRIES → get_or (noted f size n tokens list) k 0 ≡ get_or list k 0 + added f k
  unfolding noted
  entry_is f list e k l = get_d_tabulate _ (length list) k 0 (omega (arith, e))

  total_noted : (list : List ℕ) → length list ≡ ENTRIES → size ≤ 3 → total (noted one size n tokens list) ≡ total list + n
  unfolding total
  total_noted list e h =
      sum_same _ (λ k. get_or list k 0 + added one k) ENTRIES (λ k l. entry_is one list e k l)
      ∙ sum_plus (λ k. get_or list k 0) (added one) ENTRIES
      ∙ ap (λ (x : ℕ). total list + x) (in_size (λ c. shares one c n tokens) size h ∙ all_counted n tokens)

  added_least : (m k : ℕ) → ((i : ℕ) → i < n → nat_abs (get_or tokens i (pos 0)) ≤ m) → added itself k ≤ added one k * m
  added_least m k h = go (eqb (k / 11) size)
    where
      go : (b : Bool) → cond b (shares itself (k % 11) n tokens) 0 ≤ cond b (shares one (k % 11) n tokens) 0 * m
      go true = shares_least (k % 11) m n tokens h
      go false = omega arith

  sums_noted : (counts sums : List ℕ) → length counts ≡ ENTRIES → length sums ≡ ENTRIES → ((i : ℕ) → i < n → nat_abs (get_or tokens i (pos 0)) ≤ codeable 12)
      → bad_sums counts sums ≡ false → bad_sums (noted one size n tokens counts) (noted itself size n tokens sums) ≡ false
  unfolding bad_sums
  sums_noted counts sums p q h b =
      let m = codeable 12 in
      none_below _ ENTRIES
      (λ k l.
      let s = ltb-false (get_or counts k 0 * m) (get_or sums k 0) (any_at _ ENTRIES k b l) in
      let d : get_or (noted one size n tokens counts) k 0 * m ≡ get_or counts k 0 * m + added one k * m = ap (λ (x : ℕ). x * m) (entry_is one counts p k l) ∙ NatL.add-mul (get_or counts k 0) (added one k) m in
      le-ltb (get_or (noted one size n tokens counts) k 0 * m) (get_or (noted itself size n tokens sums) k 0)
      (omega (arith, d, s, entry_is itself sums q k l, added_least m k h)))

-- ---- of whatever keeps the promise
module _ (u : Input) (a : Answer) (samples counts sums : List ℕ) (r : Reported u a samples counts sums) (p : length u.counts ≡ ENTRIES) where
  pub total_grows : total counts ≤ total u.counts + length u.block.tokens
  unfolding list_after
  total_grows = rw r.counted (go (ℕ_discrete (answer_of u) 0))
    where
      go : Dec (answer_of u ≡ 0) → total (list_after one u u.counts) ≤ total u.counts + length u.block.tokens
      go (yes e) =
          rw (eq-eqb (answer_of u) 0 e)
          (NatL.le_of_eq (total_noted u.block.size (length u.block.tokens) u.block.tokens u.counts p (good u.block (own_zero u e)).size_ok))
      go (no ne) = rw (ne_eqb (answer_of u) 0 ne) (omega arith)

  pub stays_good : length u.sums ≡ ENTRIES → bad_sums u.counts u.sums ≡ false → bad_sums counts sums ≡ false
  unfolding list_after
  stays_good q b = rw (r.counted, r.summed) (go (ℕ_discrete (answer_of u) 0))
    where
      go : Dec (answer_of u ≡ 0) → bad_sums (list_after one u u.counts) (list_after itself u u.sums) ≡ false
      go (yes e) =
          rw (eq-eqb (answer_of u) 0 e)
          (sums_noted u.block.size (length u.block.tokens) u.block.tokens u.counts u.sums p q (good u.block (own_zero u e)).taken.codeables b)
      go (no ne) = rw (ne_eqb (answer_of u) 0 ne) b
