use mathlib.Core.Path.{◌≡◌}
use Rattle.whole.specs.Steps.{run, each}
use Rattle.steps.specs.Step.{step}
use Rattle.dct.specs.Dct.{turn4b}
use Rattle.dct.proofs.stage4b.Given as goal

abbrev pub invariant-loop-j : goal.invariant-loop-j
invariant-loop-j l = l.t ≡ run step (each l.j (turn4b 32 l.i)) l.initial.t

abbrev pub invariant-loop-i : goal.invariant-loop-i
invariant-loop-i l = l.t ≡ run step (each l.i (λ i. each 4 (turn4b 32 i))) l.initial.t
