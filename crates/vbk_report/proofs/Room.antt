-- A GOOD REPORT WITH ROOM FOR 16,384 TOKENS, more than any file has: no record of a run is answered 15, so the run with the report is the run without.
use Rattle.std.specs.Prelude.{Result, Ok, Err, IfOk}
use Rattle.answers.specs.declared.Refusal.{Refusal}
use mathlib.Core.Path.{◌≡◌, refl, sym, ap, ◌∙◌}
use mathlib.Core.Bool.{Bool, true, false, cond, not, ◌||◌}
use mathlib.Core.List.{List, ◌∷◌}
use Prim.Native.Nat.{ℕ, zero, suc, ◌+◌, ◌*◌, ◌≤◌, ◌<◌}
use native.Mathlib.Decide.{dec_lt, ℕ_discrete}
use native.Mathlib.Omega.{arith}
use borrow.Author.Tests.{both_ways, le-ltb, ltb-false, ne_eqb}
use lib.Dec.{ltb, eqb}
use lib.ListN.{length}
use Rattle.whole.proofs.Lists.{length_tabulate}
use Rattle.answers.specs.Limits.{codeable}
use Rattle.answers.specs.Sizes.{area}
use Rattle.answers.specs.Bad.{bad_depth, bad_size, bad_lossless, bad_tx_type, any_beyond}
use Rattle.reconstruct.specs.Reconstruct as R
use Rattle.report.specs.Classes.{one, itself}
use Rattle.report.specs.Report.{ENTRIES, TOTAL_LIMIT, total, bad_total, bad_sums, report_answer, samples_after, list_after}
use Rattle.report.proofs.Table.{passes}
use Rattle.report.proofs.Good.{total_grows, stays_good}
use Rattle.vbk_read.specs.Header.{samples_of, first_record, header_answer, number_in}
use Rattle.vbk_read.specs.Records.{size_at, lossless_at, token_at, tokens_at, next_at, end_answer, ends, read_on}
use Rattle.vbk_read.proofs.Headers.{good}
use Rattle.vbk.specs.Replay.{record_at, records}
use Rattle.vbk.specs.Promises.{run_of, roomy, run_answer, Tells, Replayed}
use Rattle.vbk.specs.declared.Run.{Run}
use Rattle.vbk.proofs.Records.{records_none, records_more, there}
use Rattle.vbk_report.specs.Lists.{counts_in, sums_in, beside}
use Rattle.vbk_report.specs.Run.{beside_after, report_reconstruction, report_run}
use Rattle.vbk_report.specs.Promises.{ReplayedReport}
use Rattle.vbk_report.proofs.Lists.{counts_in_lem, sums_in_lem}
use Rattle.vbk_report.proofs.Given.{given_at, list_length, last_record, bad_record, good_record}
use Rattle.vbk_report.proofs.History.{call_at, kept}
use Rattle.vbk_report.proofs.Same.{Without15, keeps_replay}

-- ---- numbers that are not 15
below : (b : Bool) (n r : ℕ) → n < 15 → r < 15 → cond b n r < 15
below true n r p q = p
below false n r p q = q

own_below : (u : R.Input) → R.answer_of u < 15
unfolding R.answer_of
own_below u =
    let n = length u.tokens in
    below (bad_depth u.depth) 1 _ (omega arith)
    (below (bad_size u.size) 2 _ (omega arith)
    (below (bad_lossless u.lossless u.size) 3 _ (omega arith)
    (below (bad_tx_type u.lossless u.size u.tx_type) 4 _ (omega arith)
    (below (R.bad_quantizers u.dc u.ac) 5 _ (omega arith)
    (below (not (eqb n (area (u.size + 2)))) 6 _ (omega arith)
    (below (R.bad_plane (length u.samples) u.plane) 7 _ (omega arith)
    (below (any_beyond (codeable u.depth) n u.tokens) 8 _ (omega arith)
    (below (R.bad_coefficient u.size u.dc u.ac u.tokens) 9 0 (omega arith) (omega arith)))))))))

end_below : (s : List ℕ) (at : ℕ) → end_answer s at < 15
unfolding end_answer
end_below s at =
    below (ltb (length s) (at + 11)) 12 _ (omega arith)
    (below (ltb 3 (size_at s at)) 2 _ (omega arith)
    (below (ltb (length s) (next_at s at)) 12 0 (omega arith) (omega arith)))

-- ---- a report beside the samples, good and with room for the tokens that the bytes from a place on can hold
record Roomy (s : List ℕ) (at : ℕ) (l : List ℕ) : Type 0 where
  counts_long : length (counts_in l) ≡ ENTRIES
  sums_long : length (sums_in l) ≡ ENTRIES
  sums_good : bad_sums (counts_in l) (sums_in l) ≡ false
  room_left : 4 * total (counts_in l) + length s ≤ 4 * TOTAL_LIMIT + at

moved : (s : List ℕ) (at to : ℕ) (l : List ℕ) → at ≤ to → Roomy s at l → Roomy s to l
moved s at to l h r =
    record { counts_long = r.counts_long; sums_long = r.sums_long; sums_good = r.sums_good; room_left = omega (arith, r.room_left) }

-- one record: it is not answered 15, and the others have room
record Passed (s : List ℕ) (at : ℕ) (l : List ℕ) : Type 0 where
  not_15 : (record_at report_reconstruction s at l).answer < 15
  on : Roomy s (read_on s at) (record_at report_reconstruction s at l).samples

module _ (s : List ℕ) (at : ℕ) (l : List ℕ) (f : at < length s) (h : Roomy s at l) where
  tokens_long : length (given_at s at l).block.tokens ≡ area (size_at s at + 2)
  unfolding tokens_at
  tokens_long = length_tabulate (token_at s (at + 11)) (area (size_at s at + 2))

  past : (e : ends s at ≡ false) → at + 11 + 4 * area (size_at s at + 2) ≤ length s
  unfolding next_at
  past e = (there s at e).1

  not_bad : ends s at ≡ false → bad_total (length (given_at s at l).block.tokens) (counts_in l) || bad_sums (counts_in l) (sums_in l) ≡ false
  unfolding bad_total
  not_bad e =
      rw (h.sums_good, le-ltb TOTAL_LIMIT (total (counts_in l) + length (given_at s at l).block.tokens) (omega (arith, h.room_left, past e, tokens_long)))

  next_is : ends s at ≡ false → read_on s at ≡ at + 11 + 4 * area (size_at s at + 2)
  unfolding next_at
  next_is e = rw e

  good_on : ends s at ≡ false → Roomy s (read_on s at) (beside_after (given_at s at l))
  good_on e =
      let g = given_at s at l in
      let k = kept s at l in
      let c = counts_in_lem (samples_after g) (list_after one g g.counts) (list_after itself g g.sums) in
      let m = sums_in_lem (samples_after g) (list_after one g g.counts) (list_after itself g g.sums) in
      record {
        counts_long = ap length c ∙ list_length one g g.counts ∙ h.counts_long;
        sums_long = ap length m ∙ list_length itself g g.sums ∙ h.sums_long;
        sums_good = stays_good g (call_at s at l).answer _ _ _ k h.counts_long h.sums_long h.sums_good;
        room_left =
            omega (arith, total_grows g (call_at s at l).answer _ _ _ k h.counts_long, h.room_left, next_is e, tokens_long);
      }

  passed : Passed s at l
  passed = go (ends s at) (ltb 1 (lossless_at s at)) refl refl
    where
      go : (b c : Bool) → ends s at ≡ b → ltb 1 (lossless_at s at) ≡ c → Passed s at l
      go true c p q =
          let e = last_record s at l p in
          record {
            not_15 = rw e (end_below s at);
            on = rw e (moved s at (read_on s at) l (let n : read_on s at ≡ length s = rw p in omega (arith, n)) h);
          }
      go false true p q =
          let e = bad_record s at l p q in
          record { not_15 = rw e (omega arith); on = rw e (moved s at (read_on s at) l (omega (arith, next_is p)) h) }
      go false false p q =
          let e = good_record s at l p q in
          record { not_15 = rw (e, sym (passes (given_at s at l) (not_bad p))) (own_below (given_at s at l).block); on = rw e (good_on p) }

-- ---- all records
front : (a : ℕ) (others : List ℕ) → a < 15 → Without15 others → Without15 (a ∷ others)
front a others h w zero l e = absurd (omega arith)
front a others h w (suc k) l e = w k (omega arith) e

none_15 : (s : List ℕ) (k at : ℕ) (l : List ℕ) → Roomy s at l → Without15 (records report_reconstruction s k at l).answers
unfolding records
none_15 s zero at l h = λ k q. absurd (omega arith)
none_15 s (suc k) at l h = go (dec_lt at (length s)) (none_15 s k (read_on s at) (record_at report_reconstruction s at l).samples)
  where
    go : Dec (at < length s) → (Roomy s (read_on s at) (record_at report_reconstruction s at l).samples → Without15 (records report_reconstruction s k (read_on s at) (record_at report_reconstruction s at l).samples).answers)
        → Without15 (records report_reconstruction s (suc k) at l).answers
    go (no n) ih = rw (records_none report_reconstruction s (suc k) at l (omega arith)) (λ j q. absurd (omega arith))
    go (yes f) ih =
        let p = passed s at l f h in
        rw (records_more report_reconstruction s k at l f)
        (front (record_at report_reconstruction s at l).answer (records report_reconstruction s k (read_on s at) (record_at report_reconstruction s at l).samples).answers p.not_15 (ih p.on))

-- ---- a run
neither : (a b : Bool) → cond {A = ℕ} (a || b) 15 0 ≡ 0 → (a ≡ false) × (b ≡ false)
neither true b h = absurd (omega arith)
neither false true h = absurd (omega arith)
neither false false h = (refl, refl)

header_good : (s samples answers : List ℕ) → run_answer s samples answers ≡ 0 → header_answer s ≡ 0
unfolding run_answer
header_good s samples answers h = go (roomy samples answers) refl
  where
    go : (b : Bool) → roomy samples answers ≡ b → header_answer s ≡ 0
    go true e = rw e at h
    go false e = absurd (let z : 6 ≡ 0 = rw e at h in omega arith)

-- a refusal is the same with a report and without
refused_keeps : (s samples answers counts sums : List ℕ) (r : Result Run Refusal) (samples' answers' counts' sums' : List ℕ) → eqb (run_answer s samples answers) 0 ≡ false
    → ReplayedReport s samples answers counts sums r samples' answers' counts' sums' → Replayed s samples answers r samples' answers'
refused_keeps s samples answers counts sums r samples' answers' counts' sums' e p =
    record {
      answered = p.answered;
      told = told r p.answered;
      samples_are = p.samples_are ∙ rw e;
      answers_are = p.answers_are ∙ rw e;
    }
  where
    told : (r : Result Run Refusal) → number_in r ≡ run_answer s samples answers → IfOk r (Tells s (run_of s))
    told (Err b) q = tt
    told (Ok x) q = absurd (both_ways _ e (ap (λ (n : ℕ). eqb n 0) (sym q)))

-- what a report must be for a run: its lists have all entries, and it would take a block of 16,384 tokens
module _ (s counts sums : List ℕ) (m : length counts ≡ ENTRIES) (n : length sums ≡ ENTRIES) (g : report_answer 16384 counts sums ≡ 0) where
  roomy_first : header_answer s ≡ 0 → Roomy s (first_record s) (beside (samples_of s) counts sums)
  unfolding report_answer bad_total
  roomy_first h =
      let c = counts_in_lem (samples_of s) counts sums in
      let k = sums_in_lem (samples_of s) counts sums in
      let b = neither (bad_total 16384 counts) (bad_sums counts sums) g in
      record {
        counts_long = ap length c ∙ m;
        sums_long = ap length k ∙ n;
        sums_good = rw (c, k) b.1;
        room_left = rw c (omega (arith, ltb-false TOTAL_LIMIT (total counts + 16384) b.0, (good s h).file_fits));
      }

  -- NO RECORD IS ANSWERED 15
  pub never_15 : header_answer s ≡ 0 → Without15 (report_run s counts sums).answers
  unfolding report_run
  never_15 h = none_15 s (length s) (first_record s) (beside (samples_of s) counts sums) (roomy_first h)

  -- SO THE RUN KEEPS `replay`'S PROMISE
  pub room_keeps_replay : (samples answers : List ℕ) (r : Result Run Refusal) (samples' answers' counts' sums' : List ℕ) → ReplayedReport s samples answers counts sums r samples' answers' counts' sums'
      → Replayed s samples answers r samples' answers'
  room_keeps_replay samples answers r samples' answers' counts' sums' p = go (ℕ_discrete (run_answer s samples answers) 0)
    where
      go : Dec (run_answer s samples answers ≡ 0) → Replayed s samples answers r samples' answers'
      go (yes z) = keeps_replay s samples answers counts sums r samples' answers' counts' sums' (never_15 (header_good s samples answers z)) p
      go (no ne) = refused_keeps s samples answers counts sums r samples' answers' counts' sums' (ne_eqb (run_answer s samples answers) 0 ne) p
