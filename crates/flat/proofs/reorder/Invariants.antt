use mathlib.Core.Path.{◌≡◌}
use Prim.Native.Nat.{◌-◌, ◌≤◌}
use lib.IntN.{pos}
use lib.ListN.{length, get_or}
use Rattle.whole.specs.Lists.{fill}
use Rattle.flat.proofs.reorder.Given as goal

abbrev pub invariant-loop-i : goal.invariant-loop-i
invariant-loop-i l = (l.i ≤ length l.from) × (l.t ≡ fill l.i (λ k. get_or l.initial.t (get_or l.from k 0) (pos 0)) l.initial.t)

abbrev pub decreases-loop-i : goal.decreases-loop-i
decreases-loop-i l = length l.from - l.i
