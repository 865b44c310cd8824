use mathlib.Core.Path.{sym, ap}
use native.Mathlib.Omega.{arith}
use Rattle.summary.specs.Summary.{first_of}
use Rattle.summary.proofs.Rows.{zero_rows, first_rows}
use Rattle.summary.proofs.first_row.Goals as goal

pub returns-then-summary-eq0 : goal.returns-then-summary-eq0
returns-then-summary-eq0 c = rw c.if-summary-eq0.true (sym (ap first_of zero_rows))

pub returns : goal.returns
returns c = first_rows c.args.summary (omega arith) (omega arith)
