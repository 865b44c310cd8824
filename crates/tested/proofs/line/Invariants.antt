use Rattle.tested.specs.Line.{pass_of, steps_of, Sized}
use Rattle.tested.specs.Inner.{Gives}
use Rattle.tested.specs.declared.Kind.{Kind}
use Rattle.tested.proofs.Going.{Going}
use Rattle.tested.proofs.line.Given as goal

abbrev pub invariant-loop-step : goal.invariant-loop-step
invariant-loop-step l = (k : Kind) → Sized k l.n → Gives l.n l.steps (steps_of (pass_of k) l.n) → Going (pass_of k) l.n l.initial.t l.step-index l.t l.s
