-- `adst::adst16_stage10` meets its contract.
use native.Mathlib.Omega.{arith}
use Rattle.whole.specs.Steps.{run, each}
use Rattle.whole.proofs.Steps.{each_more, ok_turn, ok_here}
use Rattle.steps.specs.Step.{step}
use Rattle.adst.specs.Adst.{sixteen10}
use lib.IntN.{pos}
use mir.Syntax.{w32}
use Rattle.whole.proofs.Signed.{loc, lit, ◌⊕◌, ◌⊗◌, fits, value}
use Rattle.adst.proofs.Angles.{bit}
use Rattle.adst.proofs.adst16_stage10.Goals as goal

pub overflow_cast-i : goal.overflow_cast-i
overflow_cast-i c = fits w32 (loc (bit c.loop-i.i c.loop-j.j (omega arith) (omega arith))) tt

pub overflow_mul-i-in-loop-j-2 : goal.overflow_mul-i-in-loop-j-2
overflow_mul-i-in-loop-j-2 c = fits w32 (lit (pos 64) ⊗ loc (bit c.loop-i.i c.loop-j.j (omega arith) (omega arith))) tt

pub overflow_add-i : goal.overflow_add-i
overflow_add-i c = fits w32 (lit (pos 48) ⊕ lit (pos 64) ⊗ loc (bit c.loop-i.i c.loop-j.j (omega arith) (omega arith))) tt

pub butterfly-requires : goal.butterfly-requires
butterfly-requires c =
    let one = ok_turn (λ i. each 2 (sixteen10 i)) 2 c.requires c.loop-i.i (omega arith) c.loop-i.invariant in
    ok_here (ok_turn (sixteen10 c.loop-i.i) 2 one c.loop-j.j (omega arith) c.loop-j.invariant)

pub loop-j-preserved : goal.loop-j-preserved
unfolding run step
loop-j-preserved c =
    let e = rw (value w32 (lit (pos 48) ⊕ lit (pos 64) ⊗ loc (bit c.loop-i.i c.loop-j.j (omega arith) (omega arith))) tt) at c.butterfly.ensures in
    each_more step (sixteen10 c.loop-i.i) c.loop-j.j _ c.loop-j.invariant e
