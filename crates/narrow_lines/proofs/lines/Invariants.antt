use Prim.Native.Nat.{◌*◌, ◌-◌, ◌≤◌}
use Rattle.answers.specs.Sizes.{side}
use Rattle.blocks.specs.Inverse.{lossy}
use Rattle.narrow.specs.Tile.{raster}
use Rattle.narrow_lines.specs.Inner.{Holds, first}
use Rattle.narrow_lines.proofs.lines.Given as goal

abbrev pub invariant-loop-q : goal.invariant-loop-q
invariant-loop-q g l = (l.q ≤ l.strips) × Holds (side l.n) (first g.D.Direction.goes_down (lossy l.use_dct) l.n (8 * l.q) (raster (side l.n) l.initial.z)) l.z

abbrev pub decreases-loop-q : goal.decreases-loop-q
decreases-loop-q g l = l.strips - l.q
