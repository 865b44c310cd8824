-- `flat::fneg` meets its contract.
use mir.Syntax.{w64}
use Rattle.whole.proofs.Signed.{loc, minus, fits, value}
use Rattle.steps.specs.Step.{step}
use Rattle.flat.proofs.fneg.Goals as goal

pub returns : goal.returns
unfolding step
returns c = rw (value w64 (minus (loc c.requires.1)) tt)

pub overflow_sub-t : goal.overflow_sub-t
overflow_sub-t c = fits w64 (minus (loc c.requires.1)) tt
