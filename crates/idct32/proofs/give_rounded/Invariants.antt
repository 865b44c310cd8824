use mathlib.Core.Path.{◌≡◌}
use Prim.Native.Nat.{◌≤◌, ◌-◌}
use lib.IntN.{pos}
use lib.ListN.{length, get_or}
use Rattle.whole.specs.Lists.{fill}
use Rattle.idct32.specs.Inner.{rounded}
use Rattle.idct32.proofs.give_rounded.Given as goal

abbrev pub invariant-loop-k : goal.invariant-loop-k
invariant-loop-k l =
    (l.k ≤ l.count) × (l.block ≡ fill l.k (λ k. rounded (get_or l.work k (pos 0)) l.bits) l.initial.block) × (length l.block ≡ length l.initial.block)

abbrev pub decreases-loop-k : goal.decreases-loop-k
decreases-loop-k l = l.count - l.k
