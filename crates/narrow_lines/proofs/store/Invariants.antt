use mathlib.Core.List.{List}
use Prim.Native.Nat.{◌≤◌, ◌-◌, ◌+◌, ◌*◌}
use lib.IntN.{ℤ}
use Rattle.blocks.specs.Inner.{set_line}
use Rattle.narrow.specs.Tile.{raster}
use Rattle.narrow_lines.specs.Inner.{start, gap, Holds}
use Rattle.narrow_lines.proofs.store.Given as goal

abbrev pub invariant-loop-b : goal.invariant-loop-b
invariant-loop-b g l =
    (l.b ≤ 8) × ((s : List ℤ) → Holds l.n0 (set_line (λ z. z) (start g.D.Direction.goes_down l.n0 l.i) (gap g.D.Direction.goes_down l.n0) (8 * l.a) l.t s) l.initial.z → Holds l.n0 (set_line (λ z. z) (start g.D.Direction.goes_down l.n0 l.i) (gap g.D.Direction.goes_down l.n0) (8 * l.a + l.b) l.t s) l.z)

abbrev pub decreases-loop-b : goal.decreases-loop-b
decreases-loop-b g l = 8 - l.b

abbrev pub invariant-loop-a : goal.invariant-loop-a
invariant-loop-a g l = (l.a ≤ l.a-end) × Holds l.n0 (set_line (λ z. z) (start g.D.Direction.goes_down l.n0 l.i) (gap g.D.Direction.goes_down l.n0) (8 * l.a) l.t (raster l.n0 l.initial.z)) l.z

abbrev pub decreases-loop-a : goal.decreases-loop-a
decreases-loop-a g l = l.a-end - l.a
