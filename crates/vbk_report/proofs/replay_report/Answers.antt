use Rattle.vbk_report.proofs.Runs.{with_report}
use Rattle.vbk_report.proofs.replay_report.Goals as goal

pub returns : goal.returns
returns c = with_report c.replay_with-outcome.ensures
