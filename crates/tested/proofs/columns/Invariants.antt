use Prim.Native.Nat.{◌-◌, ◌≤◌}
use Rattle.answers.specs.Sizes.{side}
use Rattle.tested.specs.Line.{pass_of}
use Rattle.tested.proofs.Done.{Done}
use Rattle.tested.proofs.columns.Given as goal

abbrev pub invariant-loop-j : goal.invariant-loop-j
invariant-loop-j l = (l.j ≤ l.n0) × Done (pass_of l.kind) l.n (λ k. k) (side l.n) l.j l.initial.z l.z

abbrev pub decreases-loop-j : goal.decreases-loop-j
decreases-loop-j l = l.n0 - l.j
