-- THE REPORT IS THAT OF THE RUN'S HISTORY: its records that reach reconstruction, in order, each with its answer.
use Rattle.std.specs.Prelude.{Result}
use Rattle.answers.specs.declared.Refusal.{Refusal}
use mathlib.Core.Path.{◌≡◌, refl, ap, subst, ◌∙◌}
use mathlib.Core.Bool.{Bool, true, false, cond, not, ◌||◌}
use mathlib.Core.List.{List, [], ◌∷◌, ◌++◌}
use Prim.Native.Nat.{ℕ, zero, suc, ◌+◌, ◌<◌}
use native.Mathlib.Decide.{dec_lt}
use native.Mathlib.Omega.{arith}
use borrow.Author.Tests.{le-ltb, lt-ltb}
use lib.Dec.{ltb, eqb}
use lib.ListN.{length}
use Rattle.answers.specs.Answers.{number}
use Rattle.answers.specs.Limits.{codeable}
use Rattle.answers.specs.Sizes.{area}
use Rattle.answers.specs.Bad.{bad_depth, bad_size, bad_lossless, bad_tx_type, any_beyond}
use Rattle.answers.proofs.Numbers.{numbered}
use Rattle.reconstruct.specs.Reconstruct as R
use Rattle.report.specs.Classes.{one, itself}
use Rattle.report.specs.Report.{ENTRIES, Input, bad_total, bad_sums, report_answer, answer_of, samples_after, list_after, Reported}
use Rattle.report.specs.History.{Call, empty, History, none, next, Added, Recounted}
use Rattle.report.proofs.History.{history_from, history_law}
use Rattle.vbk_read.specs.Header.{samples_of, first_record}
use Rattle.vbk_read.specs.Records.{lossless_at, found, ends, read_on}
use Rattle.vbk.specs.Replay.{Rebuilt, record_at, records}
use Rattle.vbk.specs.Promises.{run_answer}
use Rattle.vbk.specs.declared.Run.{Run}
use Rattle.vbk.proofs.Records.{records_more}
use Rattle.vbk_report.specs.Lists.{counts_in, sums_in, beside}
use Rattle.vbk_report.specs.Run.{beside_after, report_reconstruction, report_run}
use Rattle.vbk_report.specs.Promises.{ReplayedReport}
use Rattle.vbk_report.proofs.Lists.{counts_in_lem, sums_in_lem}
use Rattle.vbk_report.proofs.Given.{given_at, last_record, bad_record, good_record}

-- the call that the record at a place makes
abbrev pub call_at : List ℕ → ℕ → List ℕ → Call
call_at s at l = record { block = (given_at s at l).block; answer = numbered (answer_of (given_at s at l)) }

-- the calls of the records from a place on, k of them at most: a record that its own checks refuse makes none
unfoldable pub calls : List ℕ → ℕ → ℕ → List ℕ → List Call
calls s zero at l = []
calls s (suc k) at l =
    cond (found s at)
    (cond (ends s at || ltb 1 (lossless_at s at))
    (calls s k (read_on s at) (record_at report_reconstruction s at l).samples)
    (call_at s at l ∷ calls s k (read_on s at) (record_at report_reconstruction s at l).samples))
    []

-- the calls of a file's run
abbrev pub calls_of : (s counts sums : List ℕ) → List Call
calls_of s counts sums = calls s (length s) (first_record s) (beside (samples_of s) counts sums)

-- every answer of the call has its number
pick : (b : Bool) (n r : ℕ) → number (numbered n) ≡ n → number (numbered r) ≡ r → number (numbered (cond b n r)) ≡ cond b n r
pick true n r p q = p
pick false n r p q = q

own_number : (u : R.Input) → number (numbered (R.answer_of u)) ≡ R.answer_of u
unfolding R.answer_of
own_number u =
    let n = length u.tokens in
    pick (bad_depth u.depth) 1 _ refl
    (pick (bad_size u.size) 2 _ refl
    (pick (bad_lossless u.lossless u.size) 3 _ refl
    (pick (bad_tx_type u.lossless u.size u.tx_type) 4 _ refl
    (pick (R.bad_quantizers u.dc u.ac) 5 _ refl
    (pick (not (eqb n (area (u.size + 2)))) 6 _ refl
    (pick (R.bad_plane (length u.samples) u.plane) 7 _ refl
    (pick (any_beyond (codeable u.depth) n u.tokens) 8 _ refl
    (pick (R.bad_coefficient u.size u.dc u.ac u.tokens) 9 0 refl refl))))))))

call_number : (u : Input) → number (numbered (answer_of u)) ≡ answer_of u
unfolding answer_of report_answer
call_number u =
    pick (eqb (R.answer_of u.block) 0) _ _ (pick (bad_total (length u.block.tokens) u.counts || bad_sums u.counts u.sums) 15 0 refl refl) (own_number u.block)

-- the call's promise is kept
pub kept : (s : List ℕ) (at : ℕ) (l : List ℕ)
    → Reported (record { block = (call_at s at l).block; counts = counts_in l; sums = sums_in l }) (call_at s at l).answer (samples_after (given_at s at l)) (counts_in (beside_after (given_at s at l))) (sums_in (beside_after (given_at s at l)))
kept s at l =
    let u = given_at s at l in
    record {
      answered = call_number u;
      written = refl;
      counted = counts_in_lem (samples_after u) (list_after one u u.counts) (list_after itself u u.sums);
      summed = sums_in_lem (samples_after u) (list_after one u u.counts) (list_after itself u u.sums);
    }

-- the report after the records from a place on
abbrev Told : List ℕ → ℕ → ℕ → List ℕ → Type 0
Told s k at l = History (counts_in l) (sums_in l) (calls s k at l) (counts_in (records report_reconstruction s k at l).samples) (sums_in (records report_reconstruction s k at l).samples)

module _ (s : List ℕ) (k at : ℕ) (l : List ℕ) (f : at < length s) where
  abbrev after : List ℕ
  after = (record_at report_reconstruction s at l).samples

  abbrev others : List Call
  others = calls s k (read_on s at) after

  -- from some lists, by some calls, to the lists at the end
  abbrev ToEnd : List ℕ → List Call → Type 0
  ToEnd y cs = History (counts_in y) (sums_in y) cs (counts_in (records report_reconstruction s k (read_on s at) after).samples) (sums_in (records report_reconstruction s k (read_on s at) after).samples)

  calls_last : ends s at ≡ true → calls s (suc k) at l ≡ others
  unfolding calls
  calls_last p = rw (lt-ltb at (length s) f, p)

  calls_bad : ends s at ≡ false → ltb 1 (lossless_at s at) ≡ true → calls s (suc k) at l ≡ others
  unfolding calls
  calls_bad p q = rw (lt-ltb at (length s) f, p, q)

  calls_good : ends s at ≡ false → ltb 1 (lossless_at s at) ≡ false → calls s (suc k) at l ≡ call_at s at l ∷ others
  unfolding calls
  calls_good p q = rw (lt-ltb at (length s) f, p, q)

  more : Told s k (read_on s at) after → Told s (suc k) at l
  more h = rw (records_more report_reconstruction s k at l f) (go (ends s at) (ltb 1 (lossless_at s at)) refl refl)
    where
      go : (b c : Bool) → ends s at ≡ b → ltb 1 (lossless_at s at) ≡ c → ToEnd l (calls s (suc k) at l)
      go true c p q = rw (calls_last p) (subst (λ (y : List ℕ). ToEnd y others) (ap (λ (x : Rebuilt). x.samples) (last_record s at l p)) h)
      go false true p q = rw (calls_bad p q) (subst (λ (y : List ℕ). ToEnd y others) (ap (λ (x : Rebuilt). x.samples) (bad_record s at l p q)) h)
      go false false p q = rw (calls_good p q) (next (kept s at l) (subst (λ (y : List ℕ). ToEnd y others) (ap (λ (x : Rebuilt). x.samples) (good_record s at l p q)) h))

told : (s : List ℕ) (k at : ℕ) (l : List ℕ) → Told s k at l
unfolding records calls
told s zero at l = none
told s (suc k) at l = go (dec_lt at (length s)) (told s k (read_on s at) (record_at report_reconstruction s at l).samples)
  where
    go : Dec (at < length s) → Told s k (read_on s at) (record_at report_reconstruction s at l).samples → Told s (suc k) at l
    go (no n) ih = rw (le-ltb at (length s) (omega arith)) none
    go (yes f) ih = more s k at l f ih

pub run_history : (s counts sums : List ℕ) → History counts sums (calls_of s counts sums) (counts_in (report_run s counts sums).samples) (sums_in (report_run s counts sums).samples)
unfolding report_run
run_history s counts sums = rw (counts_in_lem (samples_of s) counts sums, sums_in_lem (samples_of s) counts sums) at (told s (length s) (first_record s) (beside (samples_of s) counts sums))

-- of whatever keeps the promise, where the run is not refused
module _ (s samples answers counts sums : List ℕ) (r : Result Run Refusal) (samples' answers' counts' sums' : List ℕ) (p : ReplayedReport s samples answers counts sums r samples' answers' counts' sums') (z : run_answer s samples answers ≡ 0) where
  pub replayed_history : History counts sums (calls_of s counts sums) counts' sums'
  replayed_history =
      let c : counts' ≡ counts_in (report_run s counts sums).samples = p.counts_are ∙ rw z in
      let m : sums' ≡ sums_in (report_run s counts sums).samples = p.sums_are ∙ rw z in
      rw (c, m) (run_history s counts sums)

-- from any report every count and sum grows by the recount's over the run's blocks
pub replayed_added : (s samples answers counts sums : List ℕ) (r : Result Run Refusal) (samples' answers' counts' sums' : List ℕ) → length counts ≡ ENTRIES → length sums ≡ ENTRIES
    → ReplayedReport s samples answers counts sums r samples' answers' counts' sums' → run_answer s samples answers ≡ 0 → Added (calls_of s counts sums) counts sums counts' sums'
replayed_added s samples answers counts sums r samples' answers' counts' sums' m n p z =
    history_from counts sums (calls_of s counts sums) counts' sums' m n (replayed_history s samples answers counts sums r samples' answers' counts' sums' p z)

-- from an empty report every count and sum is the recount's over the run's blocks
pub replayed_recount : (s samples answers : List ℕ) (r : Result Run Refusal) (samples' answers' counts' sums' : List ℕ) → ReplayedReport s samples answers empty empty r samples' answers' counts' sums' → run_answer s samples answers ≡ 0
    → Recounted (calls_of s empty empty) counts' sums'
replayed_recount s samples answers r samples' answers' counts' sums' p z =
    history_law (calls_of s empty empty) counts' sums' (replayed_history s samples answers empty empty r samples' answers' counts' sums' p z)

-- runs one after the other, with one report: their histories join
pub join : {counts sums counts₁ sums₁ counts₂ sums₂ : List ℕ} {cs ds : List Call} → History counts sums cs counts₁ sums₁ → History counts₁ sums₁ ds counts₂ sums₂ → History counts sums (cs ++ ds) counts₂ sums₂
join none h = h
join (next r g) h = next r (join g h)
