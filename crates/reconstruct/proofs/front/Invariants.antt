use mathlib.Core.Path.{◌≡◌}
use Prim.Native.Nat.{◌-◌, ◌≤◌}
use lib.IntN.{pos}
use lib.ListN.{get_or, replicate}
use Rattle.whole.specs.Lists.{fill}
use Rattle.reconstruct.proofs.front.Given as goal

abbrev pub invariant-loop-k : goal.invariant-loop-k
invariant-loop-k l = (l.k ≤ 16) × (l.few ≡ fill l.k (λ i. get_or l.block i (pos 0)) (replicate 16 (pos 0)))

abbrev pub decreases-loop-k : goal.decreases-loop-k
decreases-loop-k l = 16 - l.k
