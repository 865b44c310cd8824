use mathlib.Core.Path.{◌∙◌}
use mir.Facts.{to_z-of_z}
use Rattle.narrow.proofs.Pairs.{both_is}
use Rattle.narrow.proofs.Short.{pair_fits}
use Rattle.narrow.proofs.put16.Goals as goal

pub overflow_cast-x : goal.overflow_cast-x
overflow_cast-x c = rw (to_z-of_z c.ranges.x) (pair_fits c.requires.2).0

pub overflow_cast-y : goal.overflow_cast-y
overflow_cast-y c = rw (to_z-of_z c.ranges.y) (pair_fits c.requires.2).1

pub returns : goal.returns
returns c =
    let f = pair_fits c.requires.2 in
    (rw (to_z-of_z c.ranges.x, to_z-of_z c.ranges.y, to_z-of_z f.0, to_z-of_z f.1) at c.put.ensures) ∙ both_is _ _ _ _ _ _
