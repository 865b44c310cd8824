use mir.Syntax.{w64}
use mir.Facts.{to_z-of_z}
use Rattle.primitives.specs.Rotations.{apply_sb, turn_x, turn_y}
use Rattle.whole.proofs.Signed.{fits, value, C, ◌⊕◌, ◌⊖◌, ◌⊗◌, loc}
use Rattle.primitives.proofs.sb.Goals as goal
use Rattle.primitives.proofs.sb.Goals.{After-sin64-d}

-- the two values
abbrev xs : After-sin64-d → C
xs c = let p = c.requires in loc p.2 ⊗ loc c.cos64-c.ensures.1 ⊖ loc p.3 ⊗ loc c.sin64-d.ensures.1

abbrev ys : After-sin64-d → C
ys c = let p = c.requires in loc p.2 ⊗ loc c.sin64-d.ensures.1 ⊕ loc p.3 ⊗ loc c.cos64-c.ensures.1

pub overflow_sub-x : goal.overflow_sub-x
overflow_sub-x c = fits w64 (xs c) tt

pub overflow_add-y : goal.overflow_add-y
overflow_add-y c = fits w64 (ys c) tt

pub returns : goal.returns
unfolding apply_sb turn_x turn_y
returns c =
    let e = rw (to_z-of_z c.ranges.angle) at c.cos64-c.ensures.0 in
    let k = rw (to_z-of_z c.ranges.angle) at c.sin64-d.ensures.0 in
    rw (value w64 (ys c.before.before) tt, value w64 (xs c.before.before) tt, e, k) at c.put_pair.ensures
