use mathlib.Core.Path.{◌≡◌}
use mathlib.Core.List.{List}
use Prim.Native.Nat.{◌+◌, ◌*◌, ◌-◌, ◌≤◌}
use lib.IntN.{ℤ, pos}
use lib.ListN.{get_or}
use Rattle.whole.specs.Lists.{fill}
use Rattle.narrow.specs.Tile.{raster}
use Rattle.narrow_lines.proofs.from_strips.Given as goal

abbrev pub invariant-loop-q : goal.invariant-loop-q
invariant-loop-q l =
    (l.q ≤ l.q-end) × ((u : List ℤ) → l.initial.s ≡ fill (l.n0 * l.i) (λ k. get_or (raster l.n0 l.z) k (pos 0)) u → l.s ≡ fill (l.n0 * l.i + 8 * l.q) (λ k. get_or (raster l.n0 l.z) k (pos 0)) u)

abbrev pub decreases-loop-q : goal.decreases-loop-q
decreases-loop-q l = l.q-end - l.q

abbrev pub invariant-loop-i : goal.invariant-loop-i
invariant-loop-i l = (l.i ≤ l.n0) × (l.s ≡ fill (l.n0 * l.i) (λ k. get_or (raster l.n0 l.z) k (pos 0)) l.initial.s)

abbrev pub decreases-loop-i : goal.decreases-loop-i
decreases-loop-i l = l.n0 - l.i
