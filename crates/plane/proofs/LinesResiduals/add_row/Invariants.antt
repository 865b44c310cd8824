use mathlib.Core.Path.{◌≡◌}
use Prim.Native.Nat.{ℕ, ◌+◌, ◌≤◌}
use lib.IntN.{pos}
use lib.ListN.{length, get_or}
use Rattle.plane.specs.Inner.{row_after}
use Rattle.plane.proofs.LinesResiduals.add_row.Given as goal

abbrev pub invariant-loop-j : goal.invariant-loop-j
invariant-loop-j l =
    (l.j ≤ l.cols) × (length l.samples ≡ length l.initial.samples)
    × ((k : ℕ) → get_or l.samples k 0 ≡ row_after l.top (λ i. get_or l.self.residual.now (l.from + i) (pos 0)) l.at l.j l.initial.samples k)
