-- WHERE NO ANSWER IS 15, the run with a report has the answers, the samples and the touched count of the run without: it keeps `replay`'s promise.
use Rattle.std.specs.Prelude.{Result, Ok, Err, IfOk}
use Rattle.answers.specs.declared.Refusal.{Refusal}
use mathlib.Core.Path.{◌≡◌, refl, sym, ap, subst, ◌∙◌}
use mathlib.Core.Bool.{Bool, true, false, cond, ◌||◌}
use mathlib.Core.List.{List, ◌++◌}
use Prim.Native.Nat.{ℕ, zero, suc, ◌<◌}
use native.Mathlib.Decide.{dec_lt, ℕ_discrete}
use native.Mathlib.Omega.{arith}
use lib.Dec.{ltb, eqb}
use lib.ListN.{length, get_or, drop}
use Rattle.reconstruct.specs.Reconstruct as R
use Rattle.report.specs.Classes.{one, itself}
use Rattle.report.specs.Report.{Input, bad_total, bad_sums, answer_of, samples_after, list_after}
use Rattle.report.proofs.Table.{passes, fails, fifteen, no_fifteen, same_samples}
use Rattle.vbk_read.specs.Header.{plane_area, samples_of, first_record}
use Rattle.vbk_read.specs.Records.{lossless_at, head_at, end_answer, ends, read_on}
use Rattle.vbk.specs.Replay.{After, Rebuilt, and_then, touched_by, plane_of, rebuild_at, rebuilt_at, record_at, records, records_of}
use Rattle.vbk.specs.Filled.{reconstruction}
use Rattle.vbk.specs.Promises.{run_of, run_answer, Tells, Replayed}
use Rattle.vbk.specs.declared.Run.{Run}
use Rattle.vbk.proofs.Records.{records_none, records_more}
use Rattle.vbk_report.specs.Lists.{samples_in, beside}
use Rattle.vbk_report.specs.Run.{report_reconstruction, report_run}
use Rattle.vbk_report.specs.Promises.{ReplayedReport}
use Rattle.vbk_report.proofs.Lists.{samples_in_lem}
use Rattle.vbk_report.proofs.Given.{given_at, last_record, bad_record, good_record}

-- no answer is 15
abbrev pub Without15 : List ℕ → Type 0
Without15 answers = (k : ℕ) → k < length answers → get_or answers k 0 ≡ 15 → ⊥

-- two runs with one outcome; the first has the report's lists beside its samples
pub record SameRun (a b : After) : Type 0 where
  pub answers_are : a.answers ≡ b.answers
  pub samples_are : samples_in a.samples ≡ b.samples
  pub touched_is : a.touched ≡ b.touched

-- a block that is not answered 15 has reconstruction's own answer
not_refused : (u : Input) → (answer_of u ≡ 15 → ⊥) → R.answer_of u.block ≡ answer_of u
not_refused u h = go (bad_total (length u.block.tokens) u.counts || bad_sums u.counts u.sums) refl (ℕ_discrete (R.answer_of u.block) 0)
  where
    go : (b : Bool) → bad_total (length u.block.tokens) u.counts || bad_sums u.counts u.sums ≡ b → Dec (R.answer_of u.block ≡ 0) → R.answer_of u.block ≡ answer_of u
    go false e d = passes u e
    go true e (yes z) = absurd (h (sym (fails u e) ∙ sym (fifteen (R.answer_of u.block) z)))
    go true e (no ne) = no_fifteen (R.answer_of u.block) ne ∙ fails u e

-- one record, with a report and without
pub record SameRecord (a b : Rebuilt) : Type 0 where
  pub answer_is : a.answer ≡ b.answer
  pub samples_are : samples_in a.samples ≡ b.samples

module _ (s : List ℕ) (at : ℕ) (l : List ℕ) where
  last_plain : ends s at ≡ true → record_at reconstruction s at (samples_in l) ≡ record { answer = end_answer s at; samples = samples_in l }
  unfolding record_at
  last_plain p = rw p

  bad_plain : ends s at ≡ false → ltb 1 (lossless_at s at) ≡ true → record_at reconstruction s at (samples_in l) ≡ record { answer = 14; samples = samples_in l }
  unfolding record_at rebuilt_at
  bad_plain p q = rw (p, q)

  good_plain : ends s at ≡ false → ltb 1 (lossless_at s at) ≡ false
      → record_at reconstruction s at (samples_in l) ≡ record { answer = R.answer_of (given_at s at l).block; samples = R.samples_after (given_at s at l).block }
  unfolding record_at rebuilt_at rebuild_at reconstruction
  good_plain p q = rw (p, q)

  same_record : ((record_at report_reconstruction s at l).answer ≡ 15 → ⊥) → SameRecord (record_at report_reconstruction s at l) (record_at reconstruction s at (samples_in l))
  same_record h = go (ends s at) (ltb 1 (lossless_at s at)) refl refl
    where
      go : (b c : Bool) → ends s at ≡ b → ltb 1 (lossless_at s at) ≡ c → SameRecord (record_at report_reconstruction s at l) (record_at reconstruction s at (samples_in l))
      go true c p q = rw (last_record s at l p, last_plain p) (record { answer_is = refl; samples_are = refl })
      go false true p q = rw (bad_record s at l p q, bad_plain p q) (record { answer_is = refl; samples_are = refl })
      go false false p q =
          let u = given_at s at l in
          let g = good_record s at l p q in
          let e = not_refused u (λ z. h (ap (λ (x : Rebuilt). x.answer) g ∙ z)) in
          record {
            answer_is = ap (λ (x : Rebuilt). x.answer) g ∙ sym e ∙ sym (ap (λ (x : Rebuilt). x.answer) (good_plain p q));
            samples_are =
                ap (λ (x : Rebuilt). samples_in x.samples) g
                ∙ samples_in_lem (samples_after u) (list_after one u u.counts) (list_after itself u u.sums) ∙ sym (same_samples u e)
                ∙ sym (ap (λ (x : Rebuilt). x.samples) (good_plain p q));
          }

same_more : {a b t v : ℕ} {m n : After} → a ≡ b → t ≡ v → SameRun m n → SameRun (and_then a t m) (and_then b v n)
same_more {a} {b} {t} {v} {m} {n} e f h =
    record { answers_are = rw (e, h.answers_are); samples_are = h.samples_are; touched_is = rw (f, h.touched_is) }

-- the records from a place on
same_from : (s : List ℕ) (k at : ℕ) (l : List ℕ) → Without15 (records report_reconstruction s k at l).answers → SameRun (records report_reconstruction s k at l) (records reconstruction s k at (samples_in l))
unfolding records
same_from s zero at l h = record { answers_are = refl; samples_are = refl; touched_is = refl }
same_from s (suc k) at l h = go (dec_lt at (length s)) (same_from s k (read_on s at) (record_at report_reconstruction s at l).samples)
  where
    go : Dec (at < length s) → (Without15 (records report_reconstruction s k (read_on s at) (record_at report_reconstruction s at l).samples).answers → SameRun (records report_reconstruction s k (read_on s at) (record_at report_reconstruction s at l).samples) (records reconstruction s k (read_on s at) (samples_in (record_at report_reconstruction s at l).samples)))
        → SameRun (records report_reconstruction s (suc k) at l) (records reconstruction s (suc k) at (samples_in l))
    go (no n) ih =
        rw (records_none report_reconstruction s (suc k) at l (omega arith), records_none reconstruction s (suc k) at (samples_in l) (omega arith))
        (record { answers_are = refl; samples_are = refl; touched_is = refl })
    go (yes f) ih =
        let m = records_more report_reconstruction s k at l f in
        let w = subst (λ (a : After). Without15 a.answers) m h in
        let e = same_record s at l (w 0 (omega arith)) in
        let i = ih (λ j q. w (suc j) (omega arith)) in
        rw (m, records_more reconstruction s k at (samples_in l) f)
        (same_more e.answer_is (ap (λ (a : ℕ). touched_by a (plane_of s) (head_at s at)) e.answer_is) (rw e.samples_are at i))

pub same_run : (s counts sums : List ℕ) → Without15 (report_run s counts sums).answers → SameRun (report_run s counts sums) (run_of s)
unfolding report_run records_of
same_run s counts sums h = rw (samples_in_lem (samples_of s) counts sums) at (same_from s (length s) (first_record s) (beside (samples_of s) counts sums) h)

pub keeps_replay : (s samples answers counts sums : List ℕ) (r : Result Run Refusal) (samples' answers' counts' sums' : List ℕ) → Without15 (report_run s counts sums).answers
    → ReplayedReport s samples answers counts sums r samples' answers' counts' sums' → Replayed s samples answers r samples' answers'
keeps_replay s samples answers counts sums r samples' answers' counts' sums' w p =
    let e = same_run s counts sums w in
    let done = eqb (run_answer s samples answers) 0 in
    record {
      answered = p.answered;
      told = told r p.told;
      samples_are = p.samples_are ∙ ap (λ (a : List ℕ). cond done (a ++ drop (plane_area s) samples) samples) e.samples_are;
      answers_are = p.answers_are ∙ ap (λ (a : List ℕ). cond done (a ++ drop (length a) answers) answers) e.answers_are;
    }
  where
    told : (r : Result Run Refusal) → IfOk r (Tells s (report_run s counts sums)) → IfOk r (Tells s (run_of s))
    told (Err b) t = tt
    told (Ok x) t =
        let e = same_run s counts sums w in
        record { fields_are = t.fields_are; count_is = t.count_is ∙ ap length e.answers_are; touched_is = t.touched_is ∙ e.touched_is; count_most = t.count_most; touched_most = t.touched_most }
