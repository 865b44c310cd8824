use mathlib.Core.Path.{◌≡◌}
use Prim.Native.Nat.{◌≤◌, ◌-◌, ◌+◌, ◌*◌}
use lib.IntN.{pos}
use lib.ListN.{get_or}
use Rattle.whole.specs.Lists.{fill}
use Rattle.blocks.proofs.load.Given as goal

abbrev pub invariant-loop-k : goal.invariant-loop-k
invariant-loop-k l = (l.k ≤ l.n) × (l.t ≡ fill l.k (λ k. get_or l.s (l.start + k * l.step) (pos 0)) l.initial.t)

abbrev pub decreases-loop-k : goal.decreases-loop-k
decreases-loop-k l = l.n - l.k
