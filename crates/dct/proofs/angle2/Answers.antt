use mathlib.Core.Path.{◌≡◌}
use native.Mathlib.Omega.{arith}
use lib.IntN.{pos, ◌-ℤ◌}
use lib.Dec.{lit<}
use mir.Syntax.{w32}
use mir.Val.{to_z}
use mir.Facts.{to_z_pos}
use Rattle.whole.specs.Within.{Within}
use Rattle.whole.proofs.Within.{within_sfits, within_sub, within_lit, back}
use Rattle.primitives.proofs.Reversal.{brev_lt}
use Rattle.dct.proofs.angle2.Goals as goal
use Rattle.dct.proofs.angle2.Goals.{After-brev}

module _ (c : After-brev) where
  low : Within 31 (pos c.brev.result)
  low = record { hi = omega (arith, c.brev.ensures, brev_lt 5 c.args.x); lo = omega arith }

  same : to_z w32 c.brev.result ≡ pos c.brev.result
  same = to_z_pos w32 (omega (arith, low.hi))

  near : Within 63 (pos 32 -ℤ pos c.brev.result)
  near = within_sub (within_lit 32 (pos 32) tt) low

pub overflow_cast-result : goal.overflow_cast-result
overflow_cast-result c = within_sfits (lit< tt) (low c)

pub overflow_sub-result : goal.overflow_sub-result
overflow_sub-result c = rw (same c) (within_sfits (lit< tt) (near c))

pub returns : goal.returns
returns c = rw (same c, back w32 (lit< tt) (near c), c.brev.ensures)
