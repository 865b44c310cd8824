-- `primitives::butterfly` meets its contract.
use mathlib.Core.Path.{◌∙◌}
use lib.Dec.{lit<}
use mir.Syntax.{w64}
use mir.Facts.{to_z-of_z}
use Rattle.whole.proofs.Signed.{rd_ok}
use Rattle.whole.proofs.Within.{back}
use Rattle.primitives.specs.Rotations.{apply_b}
use Rattle.primitives.proofs.butterfly.Goals as goal

pub returns : goal.returns
unfolding apply_b
returns c =
    let r = c.turn-r in
    let u = c.struct_told-1.given in
    let e = to_z-of_z c.ranges.angle in
    let p = back w64 (lit< tt) c.requires.2 in
    let q = back w64 (lit< tt) c.requires.3 in
    let x = rd_ok w64 u.0.1 ∙ (rw (p, q, e) at r.ensures.x_is) in
    let y = rd_ok w64 u.1.0.1 ∙ (rw (p, q, e) at r.ensures.y_is) in
    rw (x, y) at c.put_pair.ensures
