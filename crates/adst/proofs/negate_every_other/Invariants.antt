use mathlib.Core.Path.{◌≡◌}
use Rattle.whole.specs.Steps.{run, each}
use Rattle.steps.specs.Step.{step}
use Rattle.adst.specs.Inner.{negated}
use Rattle.adst.proofs.negate_every_other.Given as goal

abbrev pub invariant-loop-i : goal.invariant-loop-i
invariant-loop-i l = l.t ≡ run step (each l.i (negated l.a)) l.initial.t
