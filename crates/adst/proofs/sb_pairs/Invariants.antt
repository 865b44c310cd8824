use mathlib.Core.Path.{◌≡◌}
use Rattle.whole.specs.Steps.{run, each}
use Rattle.steps.specs.Step2.{step2}
use Rattle.adst.specs.Inner.{arrays, sb_pair}
use Rattle.adst.proofs.sb_pairs.Given as goal

abbrev pub invariant-loop-i : goal.invariant-loop-i
invariant-loop-i l = arrays l.t l.s ≡ run step2 (each l.i (sb_pair l.a l.first l.by)) (arrays l.t l.initial.s)
