use mir.Facts.{to_z-of_z}
use Rattle.narrow.proofs.Short.{short_fits}
use Rattle.idct32.proofs.narrowed.Goals as goal

pub overflow_cast-result : goal.overflow_cast-result
overflow_cast-result c = rw (to_z-of_z c.ranges.x) (short_fits c.requires)

pub returns : goal.returns
returns c = rw (to_z-of_z c.ranges.x) (to_z-of_z (short_fits c.requires))
