-- What the call with a report is lent, as one value.
use Rattle.std.specs.Prelude.{List, ℕ}
use Rattle.report.specs.Classes.{one, itself}
use Rattle.report.specs.Report.{Input, samples_after, list_after}

-- the samples, and the report's two lists
pub record Lent : Type 0 where
  pub samples : List ℕ
  pub counts : List ℕ
  pub sums : List ℕ

-- afterwards
abbrev pub lent_after : Input → Lent
lent_after u = record { samples = samples_after u; counts = list_after one u u.counts; sums = list_after itself u u.sums }
