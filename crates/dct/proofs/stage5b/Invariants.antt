use mathlib.Core.Path.{◌≡◌}
use Rattle.whole.specs.Steps.{run, each}
use Rattle.steps.specs.Step.{step}
use Rattle.dct.specs.Dct.{turn5b}
use Rattle.dct.proofs.stage5b.Given as goal

abbrev pub invariant-loop-j : goal.invariant-loop-j
invariant-loop-j l = l.t ≡ run step (each l.j (turn5b l.n0 l.i)) l.initial.t

abbrev pub invariant-loop-i : goal.invariant-loop-i
invariant-loop-i l = l.t ≡ run step (each l.i (λ i. each 2 (turn5b l.n0 i))) l.initial.t
