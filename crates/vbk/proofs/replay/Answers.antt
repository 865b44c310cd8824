use Rattle.vbk.proofs.Runs.{alone}
use Rattle.vbk.proofs.replay.Goals as goal

pub returns : goal.returns
returns c = alone c.replay_with.ensures
