-- What the run with a report promises.
use Rattle.std.specs.Prelude.{◌≡◌, cond, List, ◌++◌, ℕ, eqb, length, drop, Result, IfOk}
use Rattle.answers.specs.declared.Refusal.{Refusal}
use Rattle.vbk_read.specs.Header.{plane_area, number_in}
use Rattle.vbk.specs.Promises.{run_answer, Tells}
use Rattle.vbk.specs.declared.Run.{Run}
use Rattle.vbk_report.specs.Lists.{samples_in, counts_in, sums_in}
use Rattle.vbk_report.specs.Run.{report_run}

-- the outcome: under a refusal its number, and nothing changed
pub record ReplayedReport (s samples answers counts sums : List ℕ) (r : Result Run Refusal) (samples' answers' counts' sums' : List ℕ) : Type 0 where
  pub answered : number_in r ≡ run_answer s samples answers
  pub told : IfOk r (Tells s (report_run s counts sums))
  pub samples_are : samples' ≡ cond (eqb (run_answer s samples answers) 0) (samples_in (report_run s counts sums).samples ++ drop (plane_area s) samples) samples
  pub answers_are : answers' ≡ cond (eqb (run_answer s samples answers) 0) ((report_run s counts sums).answers ++ drop (length (report_run s counts sums).answers) answers) answers
  pub counts_are : counts' ≡ cond (eqb (run_answer s samples answers) 0) (counts_in (report_run s counts sums).samples) counts
  pub sums_are : sums' ≡ cond (eqb (run_answer s samples answers) 0) (sums_in (report_run s counts sums).samples) sums
