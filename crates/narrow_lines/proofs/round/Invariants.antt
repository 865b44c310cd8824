use mathlib.Core.Path.{◌≡◌}
use Prim.Native.Nat.{◌-◌, ◌≤◌}
use lib.IntN.{pos}
use lib.ListN.{get_or}
use Rattle.whole.specs.Lists.{fill}
use Rattle.whole.specs.Round.{Round2}
use Rattle.blocks.specs.Inverse.{bits}
use Rattle.narrow_lines.proofs.round.Given as goal

abbrev pub invariant-loop-k : goal.invariant-loop-k
invariant-loop-k l = (l.k ≤ l.k-end) × (l.z ≡ fill l.k (λ i. Round2 (get_or l.initial.z i (pos 0)) (bits l.n)) l.initial.z)

abbrev pub decreases-loop-k : goal.decreases-loop-k
decreases-loop-k l = l.k-end - l.k
