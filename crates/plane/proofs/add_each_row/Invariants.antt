use mathlib.Core.Path.{◌≡◌}
use Prim.Native.Nat.{ℕ, ◌≤◌, ◌<◌}
use lib.ListN.{length, get_or}
use Rattle.plane.specs.Place.{place_of}
use Rattle.plane.specs.Plane.{sample_after}
use Rattle.plane.proofs.add_each_row.Given as goal

abbrev pub invariant-loop-i : goal.invariant-loop-i
invariant-loop-i g l =
    ((l.i ≤ l.rows) × (length l.samples ≡ length l.initial.samples))
    × ((row column : ℕ) → column < l.plane.stride
    → get_or l.samples (place_of l.plane row column) 0
    ≡ sample_after l.top (g.R.Residuals.residual l.residuals) l.x l.y l.i l.cols l.initial.samples row column (place_of l.plane row column))
