use mathlib.Core.Path.{◌≡◌}
use Prim.Native.Nat.{◌+◌, ◌-◌, ◌≤◌}
use Rattle.primitives.specs.Brev.{Brev}
use Rattle.primitives.proofs.brev.Given as goal

abbrev pub invariant-loop-i : goal.invariant-loop-i
invariant-loop-i l = (l.i ≤ l.num_bits) × (l.t + Brev (l.num_bits - l.i) l.rest ≡ Brev l.num_bits l.x)

abbrev pub decreases-loop-i : goal.decreases-loop-i
decreases-loop-i l = l.num_bits - l.i
