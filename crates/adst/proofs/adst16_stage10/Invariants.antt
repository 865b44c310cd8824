use mathlib.Core.Path.{◌≡◌}
use Rattle.whole.specs.Steps.{run, each}
use Rattle.steps.specs.Step.{step}
use Rattle.adst.specs.Adst.{sixteen10}
use Rattle.adst.proofs.adst16_stage10.Given as goal

abbrev pub invariant-loop-j : goal.invariant-loop-j
invariant-loop-j l = l.t ≡ run step (each l.j (sixteen10 l.i)) l.initial.t

abbrev pub invariant-loop-i : goal.invariant-loop-i
invariant-loop-i l = l.t ≡ run step (each l.i (λ i. each 2 (sixteen10 i))) l.initial.t
