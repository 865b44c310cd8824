-- `flat::fh` meets its contract.
use Rattle.steps.specs.Step.{step}
use Rattle.flat.proofs.fh.Goals as goal

pub returns : goal.returns
unfolding step
returns c = c.hadamard.ensures
