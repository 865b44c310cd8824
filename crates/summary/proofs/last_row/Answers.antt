use mathlib.Core.Path.{sym, ap}
use native.Mathlib.Omega.{arith}
use Rattle.summary.specs.Summary.{last_of}
use Rattle.summary.proofs.Rows.{zero_rows, last_rows, leads_most}
use Rattle.summary.proofs.last_row.Goals as goal

pub returns-then-summary-eq0 : goal.returns-then-summary-eq0
returns-then-summary-eq0 c = rw c.if-summary-eq0.true (sym (ap last_of zero_rows))

pub overflow_sub-result : goal.overflow_sub-result
overflow_sub-result c = leads_most c.args.summary (omega arith) (omega arith)

pub returns : goal.returns
returns c = last_rows c.args.summary (omega arith) (omega arith)
