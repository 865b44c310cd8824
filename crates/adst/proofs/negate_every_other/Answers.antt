-- `adst::negate_every_other` meets its contract.
use native.Mathlib.Omega.{arith}
use mir.Syntax.{w64}
use Rattle.whole.specs.Steps.{run}
use Rattle.whole.proofs.Signed.{loc, minus, fits, value}
use Rattle.whole.proofs.Steps.{each_more, ok_turn, ok_here}
use Rattle.steps.specs.Step.{step}
use Rattle.adst.specs.Inner.{negated}
use Rattle.adst.proofs.negate_every_other.Goals as goal

pub overflow_sub-t : goal.overflow_sub-t
overflow_sub-t c =
    let a = c.args in
    fits w64 (minus (loc (ok_here (ok_turn (negated a.a) a.count c.requires.2 c.loop-i.i (omega arith) c.loop-i.invariant)).1)) tt

pub loop-i-preserved : goal.loop-i-preserved
unfolding run step
loop-i-preserved c =
    let a = c.args in
    let b = (ok_here (ok_turn (negated a.a) a.count c.requires.2 c.loop-i.i (omega arith) c.loop-i.invariant)).1 in
    each_more step (negated a.a) c.loop-i.i _ c.loop-i.invariant (rw (value w64 (minus (loc b)) tt))
