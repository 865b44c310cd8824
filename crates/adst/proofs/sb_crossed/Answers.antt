-- `adst::sb_crossed` meets its contract.
use mathlib.Core.Path.{ap}
use native.Mathlib.Omega.{arith}
use Rattle.whole.specs.Steps.{run}
use Rattle.whole.proofs.Steps.{each_more, ok_turn, ok_here}
use Rattle.steps.specs.Step2.{step2}
use Rattle.adst.specs.Inner.{arrays, sb_cross}
use lib.IntN.{pos}
use mir.Syntax.{w32}
use Rattle.whole.proofs.Signed.{loc, lit, ◌⊖◌, ◌⊗◌, fits, value}
use Rattle.adst.proofs.Angles.{turn}
use Rattle.adst.proofs.sb_crossed.Goals as goal

pub overflow_cast-i : goal.overflow_cast-i
overflow_cast-i c = fits w32 (loc (turn c.loop-i.i (omega arith))) tt

pub overflow_mul-i-in-loop-i : goal.overflow_mul-i-in-loop-i
overflow_mul-i-in-loop-i c = fits w32 (lit (pos 16) ⊗ loc (turn c.loop-i.i (omega arith))) tt

pub overflow_sub-i : goal.overflow_sub-i
overflow_sub-i c = fits w32 (lit (pos 24) ⊖ lit (pos 16) ⊗ loc (turn c.loop-i.i (omega arith))) tt

pub sb-requires : goal.sb-requires
sb-requires c = ok_here (ok_turn (sb_cross c.args.a) 2 c.requires.1 c.loop-i.i (omega arith) c.loop-i.invariant)

pub loop-i-preserved : goal.loop-i-preserved
unfolding run step2
loop-i-preserved c =
    let e = rw (value w32 (lit (pos 24) ⊖ lit (pos 16) ⊗ loc (turn c.loop-i.i (omega arith))) tt) at c.sb.ensures in
    each_more step2 (sb_cross c.args.a) c.loop-i.i _ c.loop-i.invariant (ap (arrays _) e)
