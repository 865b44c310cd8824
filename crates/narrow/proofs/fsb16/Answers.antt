-- `narrow::fsb16` meets its contract.
use mathlib.Core.Path.{◌∙◌}
use lib.Dec.{lit<}
use mir.Syntax.{w32}
use mir.Facts.{to_z-of_z}
use Rattle.whole.proofs.Within.{back}
use Rattle.narrow.proofs.Pairs.{both_is}
use Rattle.narrow.proofs.fsb16.Goals as goal

pub turn-r-requires : goal.turn-r-requires
turn-r-requires c = rw (to_z-of_z c.ranges.cos, to_z-of_z c.ranges.sin) c.requires.2

pub returns-clause-made : goal.returns-clause-made
returns-clause-made c =
    let r = c.turn-r.ensures in
    (rw (back w32 (lit< tt) r.x_in, back w32 (lit< tt) r.y_in, r.x_is, r.y_is, to_z-of_z c.ranges.cos, to_z-of_z c.ranges.sin) at c.put.ensures) ∙ both_is _ _ _ _ _ _
