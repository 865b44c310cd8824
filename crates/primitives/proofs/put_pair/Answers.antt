use mir.Facts.{to_z-of_z}
use Rattle.primitives.specs.Rotations.{set_pair}
use Rattle.primitives.proofs.put_pair.Goals as goal
use Rattle.primitives.proofs.put_pair.Goals.{then-flip, else-flip}

pub returns : goal.returns
unfolding set_pair
returns g c =
    let f = c.ranges in
    elim c.if-flip.branch [ then-flip w ↦ simp (w.x-is, w.if-flip.true, to_z-of_z f.x, to_z-of_z f.y) | else-flip w ↦ simp (w.x-is, w.if-flip.false, to_z-of_z f.x, to_z-of_z f.y) ]
