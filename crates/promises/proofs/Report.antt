-- `reconstruct_block_report` gives each of reconstruction's numbers when reconstruction does, and 15 when, and only when, the report is refused and no other number applies.
use mathlib.Core.Path.{◌≡◌, refl, sym, ap, subst, ◌∙◌}
use mathlib.Core.Bool.{Bool, true, false, cond, ◌||◌}
use mathlib.Core.List.{List, [], ◌∷◌}
use mathlib.Core.Logic.{◌⊎◌, inl, inr}
use Prim.Native.Nat.{ℕ, suc, ◌+◌, ◌*◌, ◌≤◌, ◌<◌}
use native.Mathlib.Decide.{ℕ_discrete}
use native.Mathlib.Omega.{arith}
use borrow.Author.Tests.{ltb-true, lt-ltb, le-ltb, eq-eqb, ne_eqb}
use lib.Dec.{eqb}
use lib.ListN.{length, get_or}
use Rattle.whole.proofs.Tests.{any_hit}
use Rattle.answers.specs.Answers.{Answer, number, lowest}
use Rattle.answers.specs.Limits.{codeable}
use Rattle.reconstruct.specs.Reconstruct as R
use Rattle.report.specs.Report as P
use Rattle.report.specs.Report.{TOTAL_LIMIT, ENTRIES, total, bad_total, bad_sums, report_answer}
use Rattle.vbk_read.specs.Records.{lossless_at, ends}
use Rattle.vbk.specs.Replay.{record_at}
use Rattle.vbk_report.specs.Run.{report_reconstruction}
use Rattle.vbk_report.proofs.Given.{given_at, good_record}
use Rattle.promises.specs.Conditions.{SumBeyond}
use Rattle.promises.specs.Exactly.{Exactly}
use Rattle.promises.specs.When as W
use Rattle.promises.proofs.Tests as T
use Rattle.promises.proofs.When.{reconstruct_exactly}

-- ---- one test more, after all numbers of a table
module _ (When Then : ℕ → Type 0) (a n : ℕ) (b : Bool) (e : Exactly When a) (positive : 0 < n) (lower : (k : ℕ) → When k → k < n)
    (from : (k : ℕ) → When k → Then k) (last : b ≡ true → Then n) (split : (k : ℕ) → Then k → When k ⊎ ((k ≡ n) × (b ≡ true))) where
  answer : ℕ
  answer = cond (eqb a 0) (lowest ((n, b) ∷ [])) a

  -- where the table gives a number, that is the answer; where it gives none, the test decides
  own : (a ≡ 0 → ⊥) → answer ≡ a
  unfolding answer
  own h = rw (ne_eqb a 0 h)

  other : a ≡ 0 → answer ≡ cond b n 0
  unfolding answer
  other h = rw (eq-eqb a 0 h)

  decided : a ≡ 0 → (c : Bool) → b ≡ c → answer ≡ cond c n 0
  decided h c f = other h ∙ ap (λ (x : Bool). cond x n 0) f

  none_lower : (k : ℕ) → ((j : ℕ) → j < k → Then j → ⊥) → (j : ℕ) → j < k → When j → ⊥
  none_lower k l j h w = l j h (from j w)

  given : (k : ℕ) → Then k → ((j : ℕ) → j < k → Then j → ⊥) → When k ⊎ ((k ≡ n) × (b ≡ true)) → answer ≡ k
  given k t l (inl w) =
      let q = e.when k w (none_lower k l) in
      own (λ z. e.only_done z k w) ∙ q
  given k t l (inr p) =
      let z = e.done (λ j w. none_lower k l j (omega (arith, lower j w, p.0)) w) in
      other z ∙ rw p.1 (sym p.0)

  one_below : (k : ℕ) → (k ≡ n → ⊥) → (When k → ⊥) → Then k → ⊥
  one_below k ne nw t = go (split k t)
    where
      go : When k ⊎ ((k ≡ n) × (b ≡ true)) → ⊥
      go (inl w) = nw w
      go (inr p) = ne p.0

  not_then : b ≡ false → (k : ℕ) → (When k → ⊥) → Then k → ⊥
  not_then f k nw t = go (split k t)
    where
      go : When k ⊎ ((k ≡ n) × (b ≡ true)) → ⊥
      go (inl w) = nw w
      go (inr p) = T.never (sym f ∙ p.1)

  only_given : (k : ℕ) → answer ≡ suc k → Dec (a ≡ 0) → (c : Bool) → b ≡ c → Then (suc k) × ((j : ℕ) → j < suc k → Then j → ⊥)
  only_given k q (yes z) true f =
      let m : n ≡ suc k = sym (decided z true f) ∙ q in
      (subst Then m (last f), λ j h. one_below j (λ (i : j ≡ n). absurd (omega arith)) (e.only_done z j))
  only_given k q (yes z) false f = absurd (let m : 0 ≡ suc k = sym (decided z false f) ∙ q in omega arith)
  only_given k q (no ne) c f =
      let o = e.only_when k (sym (own ne) ∙ q) in
      let l = lower (suc k) o.0 in
      (from (suc k) o.0, λ j h. one_below j (λ (i : j ≡ n). absurd (omega arith)) (o.1 j h))

  nothing : ((k : ℕ) → Then k → ⊥) → (c : Bool) → b ≡ c → answer ≡ 0
  nothing h true f = absurd (h n (last f))
  nothing h false f = other (e.done (λ k w. h k (from k w))) ∙ rw f

  only_nothing : answer ≡ 0 → Dec (a ≡ 0) → (c : Bool) → b ≡ c → (k : ℕ) → Then k → ⊥
  only_nothing q (yes z) true f k t = absurd (let m : n ≡ 0 = sym (decided z true f) ∙ q in omega arith)
  only_nothing q (yes z) false f k t = not_then f k (e.only_done z k) t
  only_nothing q (no ne) c f k t = absurd (ne (sym (own ne) ∙ q))

  pub and_last : Exactly Then (cond (eqb a 0) (lowest ((n, b) ∷ [])) a)
  unfolding answer
  and_last =
      record {
        when = λ k t l. given k t l (split k t);
        only_when = λ k q. only_given k q (ℕ_discrete a 0) b refl;
        done = λ h. nothing h b refl;
        only_done = λ q. only_nothing q (ℕ_discrete a 0) b refl;
      }

-- ---- the report's test
sums_test : (counts sums : List ℕ) → SumBeyond counts sums → bad_sums counts sums ≡ true
unfolding bad_sums
sums_test counts sums s = any_hit _ s.place ENTRIES s.listed (lt-ltb (get_or counts s.place 0 * codeable 12) (get_or sums s.place 0) s.beyond)

some_sum : (counts sums : List ℕ) → bad_sums counts sums ≡ true → SumBeyond counts sums
unfolding bad_sums
some_sum counts sums h =
    let f = T.found _ ENTRIES h in
    record { place = f.0; listed = f.1; beyond = ltb-true (get_or counts f.0 0 * codeable 12) (get_or sums f.0 0) f.2 }

below_15 : (u : R.Input) (k : ℕ) → W.Reconstruct u k → k < 15
below_15 u k (W.depth h) = omega arith
below_15 u k (W.size h) = omega arith
below_15 u k (W.lossless h) = omega arith
below_15 u k (W.tx_type h) = omega arith
below_15 u k (W.dc h) = omega arith
below_15 u k (W.ac h) = omega arith
below_15 u k (W.count h) = omega arith
below_15 u k (W.short h) = omega arith
below_15 u k (W.long h) = omega arith
below_15 u k (W.wide h) = omega arith
below_15 u k (W.high h) = omega arith
below_15 u k (W.samples h) = omega arith
below_15 u k (W.token h) = omega arith
below_15 u k (W.coefficient h) = omega arith

module _ (u : P.Input) where
  fails : Bool
  fails = bad_total (length u.block.tokens) u.counts || bad_sums u.counts u.sums

  refused : fails ≡ true → W.Report u 15
  unfolding fails bad_total
  refused h =
      T.or_true (bad_total (length u.block.tokens) u.counts) (bad_sums u.counts u.sums)
      (λ p. W.past (ltb-true TOTAL_LIMIT (total u.counts + length u.block.tokens) p))
      (λ p. W.sum (some_sum u.counts u.sums p))
      h

  split : (k : ℕ) → W.Report u k → W.Reconstruct u.block k ⊎ ((k ≡ 15) × (fails ≡ true))
  unfolding fails bad_total
  split k (W.block w) = inl w
  split k (W.past h) = inr (refl, T.left _ (bad_sums u.counts u.sums) (lt-ltb TOTAL_LIMIT (total u.counts + length u.block.tokens) h))
  split k (W.sum s) = inr (refl, T.right (bad_total (length u.block.tokens) u.counts) _ (sums_test u.counts u.sums s))

  report_exactly : Exactly (W.Report u) (P.answer_of u)
  unfolding P.answer_of report_answer fails
  report_exactly =
      and_last (W.Reconstruct u.block) (W.Report u) (R.answer_of u.block) 15 fails (reconstruct_exactly u.block) (omega arith) (below_15 u.block)
      (λ k w. W.block w) refused split

-- `reconstruct_block_report`
pub report_when : (u : P.Input) (a : Answer) (samples counts sums : List ℕ) → P.Reported u a samples counts sums → Exactly (W.Report u) (number a)
report_when u a samples counts sums r = subst (λ (n : ℕ). Exactly (W.Report u) n) (sym r.answered) (report_exactly u)

-- a record of `replay_report` that its own checks pass: with the report as the records before it left it
pub report_record_when : (s : List ℕ) (at : ℕ) (l : List ℕ) → ends s at ≡ false → lossless_at s at ≤ 1 → Exactly (W.Report (given_at s at l)) (record_at report_reconstruction s at l).answer
report_record_when s at l e h = rw (good_record s at l e (le-ltb 1 (lossless_at s at) h)) (report_exactly (given_at s at l))
