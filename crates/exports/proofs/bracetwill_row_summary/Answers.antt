use mathlib.Core.Path.{sym, ◌∙◌}
use Rattle.exports.proofs.Rows.{summed, not_summed}
use Rattle.exports.proofs.bracetwill_row_summary.Goals as goal

pub returns-in-Ok : goal.returns-in-Ok
returns-in-Ok c = summed _ _ (sym c.row_summary.ensures ∙ c.in-Ok.is)

pub returns-in-Err : goal.returns-in-Err
returns-in-Err c = not_summed _ _ (sym c.row_summary.ensures ∙ c.in-Err.is) c.from.ensures
