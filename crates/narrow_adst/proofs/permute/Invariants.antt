use mathlib.Core.Path.{◌≡◌}
use Prim.Native.Nat.{◌+◌, ◌-◌, ◌*◌, ◌≤◌}
use lib.IntN.{pos}
use lib.ListN.{get_or}
use Rattle.whole.specs.Lists.{fill}
use Rattle.narrow_adst.proofs.permute.Given as goal

abbrev pub invariant-loop-b : goal.invariant-loop-b
invariant-loop-b g l = (l.b ≤ l.k) × (l.t ≡ fill (l.k * l.a + l.b) (λ i. get_or l.copy_t (g.O.Order.source l.n i) (pos 0)) l.copy_t)

abbrev pub decreases-loop-b : goal.decreases-loop-b
decreases-loop-b g l = l.k - l.b

abbrev pub invariant-loop-a : goal.invariant-loop-a
invariant-loop-a g l = (l.a ≤ l.h) × (l.t ≡ fill (l.k * l.a) (λ i. get_or l.copy_t (g.O.Order.source l.n i) (pos 0)) l.copy_t)

abbrev pub decreases-loop-a : goal.decreases-loop-a
decreases-loop-a g l = l.h - l.a
