use native.Mathlib.Omega.{arith}
use Rattle.whole.specs.Steps.{run, each}
use Rattle.whole.proofs.Steps.{each_more, ok_turn, ok_here}
use Rattle.steps.specs.Step.{step}
use Rattle.dct.specs.Dct.{turn4b}
use Rattle.dct.proofs.stage4b.Goals as goal

pub hadamard-requires : goal.hadamard-requires
hadamard-requires c =
    let one = ok_turn (λ i. each 4 (turn4b 32 i)) 2 c.requires c.loop-i.i (omega arith) c.loop-i.invariant in
    ok_here (ok_turn (turn4b 32 c.loop-i.i) 4 one c.loop-j.j (omega arith) c.loop-j.invariant)

pub loop-j-preserved : goal.loop-j-preserved
unfolding run step
loop-j-preserved c = each_more step _ _ _ c.loop-j.invariant c.hadamard.ensures
