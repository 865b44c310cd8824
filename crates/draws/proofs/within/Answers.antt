use Rattle.std.proofs.Common.{arith}
use Rattle.draws.proofs.Counts.{counts}
use Rattle.draws.proofs.within.Goals as goal

pub returns : goal.returns
returns g c = counts _ _ (omega arith)
