use mathlib.Core.Path.{◌≡◌}
use Rattle.whole.specs.Steps.{run, each}
use Rattle.steps.specs.Step2.{step2}
use Rattle.adst.specs.Inner.{arrays, sh_half}
use Rattle.adst.proofs.sh_halves.Given as goal

abbrev pub invariant-loop-i : goal.invariant-loop-i
invariant-loop-i l = arrays l.t l.s ≡ run step2 (each l.i (sh_half l.a l.count)) (arrays l.initial.t l.s)
