-- One result per promise: two results that meet `replay_report`'s promise on the same input coincide.
use mathlib.Core.Path.{◌≡◌, sym, ◌∙◌}
use mathlib.Core.List.{List}
use Prim.Native.Nat.{ℕ}
use Rattle.std.specs.Prelude.{Result}
use Rattle.answers.specs.declared.Refusal.{Refusal}
use Rattle.vbk_read.proofs.Results.{result_unique}
use Rattle.vbk.specs.Promises.{run_answer, Tells}
use Rattle.vbk.specs.declared.Run.{Run}
use Rattle.vbk.proofs.Runs.{tells_unique}
use Rattle.vbk_report.specs.Run.{report_run}
use Rattle.vbk_report.specs.Promises.{ReplayedReport}

same : {A : Type 0} {d x y : A} → x ≡ d → y ≡ d → x ≡ y
same p q = p ∙ sym q

pub replay_report_unique : (s samples answers counts sums : List ℕ) (r t : Result Run Refusal) (p₁ p₂ a₁ a₂ c₁ c₂ m₁ m₂ : List ℕ) → ReplayedReport s samples answers counts sums r p₁ a₁ c₁ m₁
    → ReplayedReport s samples answers counts sums t p₂ a₂ c₂ m₂ → (r ≡ t) × (p₁ ≡ p₂) × (a₁ ≡ a₂) × (c₁ ≡ c₂) × (m₁ ≡ m₂)
replay_report_unique s samples answers counts sums r t p₁ p₂ a₁ a₂ c₁ c₂ m₁ m₂ p q = (
  result_unique (Tells s (report_run s counts sums)) (run_answer s samples answers) (tells_unique s (report_run s counts sums)) r t p.answered q.answered p.told q.told,
  same p.samples_are q.samples_are,
  same p.answers_are q.answers_are,
  same p.counts_are q.counts_are,
  same p.sums_are q.sums_are,
)
