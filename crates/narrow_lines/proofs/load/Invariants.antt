use mathlib.Core.Path.{◌≡◌}
use mathlib.Core.List.{List}
use Prim.Native.Nat.{◌≤◌, ◌-◌, ◌+◌, ◌*◌}
use lib.IntN.{ℤ, pos}
use lib.ListN.{get_or}
use Rattle.whole.specs.Lists.{fill}
use Rattle.narrow.specs.Tile.{raster}
use Rattle.narrow_lines.specs.Inner.{start, gap}
use Rattle.narrow_lines.proofs.load.Given as goal

abbrev pub invariant-loop-b : goal.invariant-loop-b
invariant-loop-b g l =
    (l.b ≤ 8) × ((u : List ℤ) → l.initial.t ≡ fill (8 * l.a) (λ k. get_or (raster l.n0 l.z) (start g.D.Direction.goes_down l.n0 l.i + k * gap g.D.Direction.goes_down l.n0) (pos 0)) u → l.t ≡ fill (8 * l.a + l.b) (λ k. get_or (raster l.n0 l.z) (start g.D.Direction.goes_down l.n0 l.i + k * gap g.D.Direction.goes_down l.n0) (pos 0)) u)

abbrev pub decreases-loop-b : goal.decreases-loop-b
decreases-loop-b g l = 8 - l.b

abbrev pub invariant-loop-a : goal.invariant-loop-a
invariant-loop-a g l = (l.a ≤ l.a-end) × (l.t ≡ fill (8 * l.a) (λ k. get_or (raster l.n0 l.z) (start g.D.Direction.goes_down l.n0 l.i + k * gap g.D.Direction.goes_down l.n0) (pos 0)) l.initial.t)

abbrev pub decreases-loop-a : goal.decreases-loop-a
decreases-loop-a g l = l.a-end - l.a
