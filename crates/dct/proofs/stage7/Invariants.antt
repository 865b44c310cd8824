use mathlib.Core.Path.{◌≡◌}
use Rattle.whole.specs.Steps.{run, each}
use Rattle.steps.specs.Step.{step}
use Rattle.dct.specs.Dct.{turn7}
use Rattle.dct.proofs.stage7.Given as goal

abbrev pub invariant-loop-i : goal.invariant-loop-i
invariant-loop-i l = l.t ≡ run step (each l.i (turn7 l.n0)) l.initial.t
