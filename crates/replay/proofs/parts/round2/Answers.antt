use native.Mathlib.Omega.{arith}
use Rattle.whole.proofs.Within.{within_abs}
use Rattle.replay.proofs.parts.round2.Goals as goal

pub round2-requires : goal.round2-requires
round2-requires c = (omega arith, omega arith, within_abs (omega (arith, c.magnitude-size.ensures)))
