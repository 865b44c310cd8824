use mathlib.Core.Path.{◌≡◌}
use Prim.Native.Nat.{◌≤◌, ◌-◌, ◌+◌, ◌*◌}
use lib.IntN.{pos}
use lib.ListN.{length, get_or, set}
use Rattle.whole.specs.Inner.{times}
use Rattle.whole.specs.Round.{Round2}
use Rattle.blocks.proofs.store_rounded.Given as goal

abbrev pub invariant-loop-k : goal.invariant-loop-k
invariant-loop-k l = (l.k ≤ l.n) × (l.s ≡ times l.k (λ k s. set s (l.start + k * l.step) (Round2 (get_or l.t k (pos 0)) l.shift)) l.initial.s) × (length l.s ≡ length l.initial.s)

abbrev pub decreases-loop-k : goal.decreases-loop-k
decreases-loop-k l = l.n - l.k
