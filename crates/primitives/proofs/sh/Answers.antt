use mir.Syntax.{w64}
use Rattle.primitives.specs.Rotations.{apply_sh}
use Rattle.whole.proofs.Signed.{rd_ok, value, ◌⊕◌, ◌⊖◌, loc}
use Rattle.primitives.proofs.sh.Goals as goal

pub returns : goal.returns
unfolding apply_sh
returns c =
    let p = c.requires in
    let x = c.round2-x in
    let y = c.round2-y in
    rw (rd_ok w64 x.type_inv, rd_ok w64 y.type_inv, x.ensures, y.ensures, value w64 (loc p.2 ⊕ loc p.3) tt, value w64 (loc p.2 ⊖ loc p.3) tt)
