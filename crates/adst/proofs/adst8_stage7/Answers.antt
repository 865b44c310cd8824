-- `adst::adst8_stage7` meets its contract.
use native.Mathlib.Omega.{arith}
use Rattle.whole.specs.Steps.{run}
use Rattle.whole.proofs.Steps.{each_more, ok_turn, ok_here}
use Rattle.steps.specs.Step.{step}
use Rattle.adst.specs.Adst.{eight7}
use Rattle.adst.proofs.adst8_stage7.Goals as goal

pub butterfly-requires : goal.butterfly-requires
butterfly-requires c = ok_here (ok_turn eight7 2 c.requires c.loop-i.i (omega arith) c.loop-i.invariant)

pub loop-i-preserved : goal.loop-i-preserved
unfolding run step
loop-i-preserved c =
    each_more step eight7 c.loop-i.i _ c.loop-i.invariant c.butterfly.ensures
