use Prim.Native.Nat.{◌*◌, ◌-◌}
use Rattle.blocks.specs.Kind.{pass_of}
use Rattle.blocks.proofs.Turns.{Turn}
use Rattle.small_passes.proofs.all_rows.Given as goal

abbrev pub invariant-loop-i : goal.invariant-loop-i
invariant-loop-i g l = Turn (pass_of l.transform) 2 4 (λ z. z) (λ i. i * 4) 1 l.initial.block l.block l.t l.i

abbrev pub decreases-loop-i : goal.decreases-loop-i
decreases-loop-i g l = 4 - l.i
