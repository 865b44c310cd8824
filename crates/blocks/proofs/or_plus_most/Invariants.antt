use Prim.Native.Nat.{ℕ, ◌+◌, ◌-◌, ◌≤◌, ◌<◌}
use lib.IntN.{pos, nat_abs}
use lib.ListN.{get_or}
use Rattle.blocks.proofs.or_plus_most.Given as goal

abbrev pub invariant-loop-k : goal.invariant-loop-k
invariant-loop-k l = (l.k ≤ l.n) × (l.all < l.most + l.most → (j : ℕ) → j < l.k → nat_abs (get_or l.s (l.start + j) (pos 0)) ≤ l.most)

abbrev pub decreases-loop-k : goal.decreases-loop-k
decreases-loop-k l = l.n - l.k
