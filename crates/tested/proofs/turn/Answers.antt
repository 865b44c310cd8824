-- `tested::turn` meets its contract.
use mir.Facts.{to_z-of_z}
use Rattle.narrow.proofs.Angles.{tells}
use Rattle.tested.proofs.Entries.{angle_is, cos_rd, sin_rd, may_turn}
use Rattle.tested.proofs.turn.Goals as goal

pub rotate-requires : goal.rotate-requires
rotate-requires c =
    may_turn c.cos_sin-cos.ensures c.requires.0 c.requires.1

pub returns : goal.returns
returns c =
    let h = rw (to_z-of_z c.ranges.angle) at c.cos_sin-cos.ensures in
    tells (angle_is h) _ _ _ _ (rw (cos_rd h, sin_rd h) at c.rotate.ensures)
