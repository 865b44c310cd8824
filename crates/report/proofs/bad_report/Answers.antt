use mathlib.Core.Path.{sym}
use Rattle.report.proofs.bad_report.Goals as goal

pub returns-then-bad_total : goal.returns-then-bad_total
returns-then-bad_total c = rw (sym c.bad_total.ensures, c.if-bad_total.true)

pub returns : goal.returns
returns c = rw (sym c.bad_total.ensures, c.if-bad_total.false) c.bad_sums.ensures
