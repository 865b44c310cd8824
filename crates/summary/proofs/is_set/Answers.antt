use mathlib.Core.Path.{refl}
use Rattle.summary.specs.Summary.{is_set}
use Rattle.summary.proofs.is_set.Goals as goal

pub returns : goal.returns
unfolding is_set
returns c = refl
