use Prim.Native.Nat.{◌*◌, ◌-◌, ◌≤◌}
use Rattle.answers.specs.Sizes.{side}
use Rattle.tested.specs.Line.{pass_of}
use Rattle.tested.proofs.Done.{Done}
use Rattle.tested.proofs.rows.Given as goal

abbrev pub invariant-loop-i : goal.invariant-loop-i
invariant-loop-i l = (l.i ≤ l.n0) × Done (pass_of l.kind) l.n (λ k. k * side l.n) 1 l.i l.initial.z l.z

abbrev pub decreases-loop-i : goal.decreases-loop-i
decreases-loop-i l = l.n0 - l.i
