use mathlib.Core.Path.{◌≡◌}
use Prim.Native.Nat.{◌+◌, ◌-◌, ◌≤◌}
use lib.IntN.{pos, ◌+ℤ◌}
use lib.ListN.{get_or, replicate}
use Rattle.whole.specs.Lists.{fill}
use Rattle.plane.specs.Plane.{clip}
use Rattle.plane16.proofs.sums.Given as goal

abbrev pub invariant-loop-j : goal.invariant-loop-j
invariant-loop-j l =
    (l.j ≤ 8) × (l.o ≡ fill l.j (λ i. clip l.top (pos (get_or l.samples (l.at + i) 0) +ℤ get_or l.z (l.from + i) (pos 0))) (replicate 8 0))

abbrev pub decreases-loop-j : goal.decreases-loop-j
decreases-loop-j l = 8 - l.j
