use mathlib.Core.Path.{◌≡◌}
use Prim.Native.Nat.{ℕ, ◌-◌, ◌*◌, ◌≤◌}
use lib.IntN.{pos}
use lib.ListN.{length, get_or}
use Rattle.narrow.specs.Tile.{place}
use Rattle.plane.specs.Inner.{row_after}
use Rattle.plane16.proofs.StripsResiduals.add_row.Given as goal

abbrev pub invariant-loop-q : goal.invariant-loop-q
invariant-loop-q l =
    (l.q ≤ l.eights) × (length l.samples ≡ length l.initial.samples)
    × ((k : ℕ) → get_or l.samples k 0 ≡ row_after l.top (λ j. get_or l.self.z.now (place l.self.n0 l.i j) (pos 0)) l.at (8 * l.q) l.initial.samples k)

abbrev pub decreases-loop-q : goal.decreases-loop-q
decreases-loop-q l = l.eights - l.q
