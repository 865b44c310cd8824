use native.Mathlib.Omega.{arith}
use Rattle.summary.proofs.Rows.{ones_rows}
use Rattle.summary.proofs.row_count.Goals as goal

pub returns : goal.returns
returns c = ones_rows c.args.summary (omega arith)
