use mathlib.Core.Path.{◌∙◌}
use mir.Facts.{to_z-of_z}
use Rattle.narrow.proofs.Short.{ok_short}
use Rattle.narrow.proofs.is_short.Goals as goal

pub returns : goal.returns
returns c = c.is_ok.ensures.value ∙ ok_short c.try_from.result _ _ (rw (to_z-of_z c.ranges.x) at c.try_from.ensures)
