-- With the report beside the plane, the run of `vbk` keeps this call's promise.
use Rattle.std.specs.Prelude.{Result}
use Rattle.answers.specs.declared.Refusal.{Refusal}
use mathlib.Core.Path.{◌≡◌, sym, ap, ◌∙◌}
use mathlib.Core.Bool.{false, cond}
use mathlib.Core.List.{List, ◌++◌}
use Prim.Native.Nat.{ℕ}
use native.Mathlib.Decide.{ℕ_discrete}
use borrow.Author.Tests.{both_ways, ne_eqb}
use lib.Dec.{eqb}
use lib.ListN.{take, drop}
use Rattle.vbk_read.specs.Header.{plane_area}
use Rattle.vbk.specs.Promises.{run_answer, Played}
use Rattle.vbk.specs.declared.Run.{Run}
use Rattle.vbk_report.specs.Lists.{beside, samples_in, counts_in, sums_in}
use Rattle.vbk_report.specs.Run.{report_reconstruction, report_run}
use Rattle.vbk_report.specs.Promises.{ReplayedReport}
use Rattle.vbk_report.specs.declared.Report.{Report}
use Rattle.vbk_report.proofs.Lists.{samples_in_lem, counts_in_lem, sums_in_lem}

pub with_report : {s samples answers : List ℕ} {b b' : Report} {r : Result Run Refusal} {samples' answers' : List ℕ} → Played report_reconstruction (λ l x. beside l x.counts x.sums) s samples answers b r samples' answers' b'
    → ReplayedReport s samples answers b.counts b.sums r samples' answers' b'.counts b'.sums
unfolding report_run
with_report {s} {samples} {answers} {b} {b'} {r} {samples'} {answers'} p =
    record {
      answered = p.answered;
      told = p.told;
      samples_are = at_zero samples (λ z. p.samples_are ∙ ap (λ (n : ℕ). cond (eqb n 0) (front ++ drop (plane_area s) samples) samples) z ∙ ap (λ (l : List ℕ). l ++ drop (plane_area s) samples) (sym (samples_in_lem front b'.counts b'.sums) ∙ ap samples_in (p.beside_is z))) (λ f. p.samples_are ∙ rw f);
      answers_are = p.answers_are;
      counts_are = at_zero b.counts (λ z. sym (counts_in_lem front b'.counts b'.sums) ∙ ap counts_in (p.beside_is z)) (λ f. ap (λ (x : Report). x.counts) (stays f));
      sums_are = at_zero b.sums (λ z. sym (sums_in_lem front b'.counts b'.sums) ∙ ap sums_in (p.beside_is z)) (λ f. ap (λ (x : Report). x.sums) (stays f));
    }
  where
    front : List ℕ
    front = take (plane_area s) samples'

    stays : eqb (run_answer s samples answers) 0 ≡ false → b' ≡ b
    stays f = p.beside_stays (λ z. both_ways _ f (ap (λ (n : ℕ). eqb n 0) z))

    at_zero : {x y : List ℕ} (w : List ℕ) → (run_answer s samples answers ≡ 0 → x ≡ y) → (eqb (run_answer s samples answers) 0 ≡ false → x ≡ w) → x ≡ cond (eqb (run_answer s samples answers) 0) y w
    at_zero {x} {y} w done not_done = go (ℕ_discrete (run_answer s samples answers) 0)
      where
        go : Dec (run_answer s samples answers ≡ 0) → x ≡ cond (eqb (run_answer s samples answers) 0) y w
        go (yes z) = done z ∙ sym (rw z)
        go (no n) = let f = ne_eqb (run_answer s samples answers) 0 n in not_done f ∙ sym (rw f)
