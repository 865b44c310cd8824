use Prim.Native.Nat.{◌*◌, ◌≤◌}
use Rattle.answers.specs.Sizes.{side}
use Rattle.narrow.specs.Tile.{raster}
use Rattle.narrow_lines.specs.Inner.{Holds, strip}
use Rattle.narrow_lines.proofs.eight.Given as goal

abbrev pub invariant-loop-j : goal.invariant-loop-j
invariant-loop-j g l =
    let T = g.T.Transform in
    (l.j ≤ 8) × Holds (side T.n) (strip g.D.Direction.goes_down T.pass T.n (8 * l.q) l.j (raster (side T.n) l.initial.z)) l.z
