use native.Mathlib.Omega.{arith}
use mir.Syntax.{w32}
use Rattle.whole.specs.Steps.{run, each}
use Rattle.whole.proofs.Signed.{rd_ok}
use Rattle.whole.proofs.Steps.{each_more, ok_turn, ok_here}
use Rattle.steps.specs.Step.{step}
use Rattle.dct.specs.Dct.{turn4a}
use Rattle.dct.proofs.stage4a.Goals as goal

pub butterfly-requires : goal.butterfly-requires
butterfly-requires c =
    let one = ok_turn (λ i. each 2 (turn4a 5 32 i)) 2 c.requires c.loop-i.i (omega arith) c.loop-i.invariant in
    ok_here (ok_turn (turn4a 5 32 c.loop-i.i) 2 one c.loop-j.j (omega arith) c.loop-j.invariant)

pub loop-j-preserved : goal.loop-j-preserved
unfolding run step
loop-j-preserved c =
    let a = c.angle4-angle in
    each_more step _ _ _ c.loop-j.invariant (rw (rd_ok w32 a.type_inv, a.ensures) at c.butterfly.ensures)
