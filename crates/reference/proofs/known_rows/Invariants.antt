use Prim.Native.Nat.{◌*◌, ◌-◌}
use Rattle.blocks.specs.Kind.{pass_of}
use Rattle.blocks.proofs.Turns.{Turn}
use Rattle.reference.proofs.known_rows.Given as goal

abbrev pub invariant-loop-i : goal.invariant-loop-i
invariant-loop-i g l = Turn (pass_of l.transform) l.n l.n0 (λ z. z) (λ i. i * l.n0) 1 l.initial.block l.block l.t l.i

abbrev pub decreases-loop-i : goal.decreases-loop-i
decreases-loop-i g l = l.n0 - l.i
