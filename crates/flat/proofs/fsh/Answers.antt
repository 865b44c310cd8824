-- `flat::fsh` meets its contract.
use mathlib.Core.Path.{ap}
use mathlib.Core.List.{List}
use lib.IntN.{ℤ}
use Rattle.steps.specs.Step2.{step2}
use Rattle.adst.specs.Inner.{arrays}
use Rattle.flat.proofs.fsh.Goals as goal

pub returns : goal.returns
unfolding step2
returns c = ap (λ (t : List ℤ). arrays t c.args.s.now) c.sh.ensures
