use native.Mathlib.Omega.{arith}
use Rattle.vbk_read.proofs.Headers.{area_small}
use Rattle.vbk_read.proofs.plane_area.Goals as goal

pub overflow_mul-result : goal.overflow_mul-result
overflow_mul-result c =
    let p = c.from.ensures in
    let q = c.from-2.ensures in
    record { fits = rw (p, q) (omega (arith, area_small c.ranges.width.fits c.ranges.height.fits)) }
