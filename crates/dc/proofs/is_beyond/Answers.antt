use mathlib.Core.Path.{ap, ◌∙◌}
use lib.Dec.{ltb}
use lib.IntN.{nat_abs}
use mir.Facts.{to_z-of_z}
use Rattle.answers.specs.Limits.{COEF_LIMIT}
use Rattle.dc.proofs.is_beyond.Goals as goal

pub returns : goal.returns
returns c = ap (ltb COEF_LIMIT) (c.magnitude.ensures ∙ ap nat_abs (to_z-of_z c.ranges.x))
