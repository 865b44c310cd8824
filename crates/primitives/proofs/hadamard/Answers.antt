use mir.Syntax.{w64}
use Rattle.primitives.specs.Rotations.{apply_h}
use Rattle.whole.proofs.Signed.{value, ◌⊕◌, ◌⊖◌, loc}
use Rattle.primitives.proofs.hadamard.Goals as goal
use Rattle.primitives.proofs.hadamard.Goals.{then-flip, else-flip}

pub returns : goal.returns
unfolding apply_h
returns c =
    let p = c.requires in
    elim c.if-flip.branch [
      | then-flip w ↦ rw (w.a-is, w.if-flip.true, value w64 (loc p.3 ⊕ loc p.2) tt, value w64 (loc p.3 ⊖ loc p.2) tt)
      | else-flip w ↦ rw (w.a-is, w.if-flip.false, value w64 (loc p.2 ⊕ loc p.3) tt, value w64 (loc p.2 ⊖ loc p.3) tt)
    ]
