use mathlib.Core.Path.{◌≡◌}
use Rattle.whole.specs.Steps.{run, each}
use Rattle.steps.specs.Step.{step}
use Rattle.adst.specs.Inner.{hadamard_half}
use Rattle.adst.proofs.hadamard_halves.Given as goal

abbrev pub invariant-loop-i : goal.invariant-loop-i
invariant-loop-i l = l.t ≡ run step (each l.i (hadamard_half l.a l.count)) l.initial.t
