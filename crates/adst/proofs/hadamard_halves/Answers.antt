-- `adst::hadamard_halves` meets its contract.
use native.Mathlib.Omega.{arith}
use Rattle.whole.specs.Steps.{run}
use Rattle.whole.proofs.Steps.{each_more, ok_turn, ok_here}
use Rattle.steps.specs.Step.{step}
use Rattle.adst.specs.Inner.{hadamard_half}
use Rattle.adst.proofs.hadamard_halves.Goals as goal

pub hadamard-requires : goal.hadamard-requires
hadamard-requires c = let a = c.args in ok_here (ok_turn (hadamard_half a.a a.count) a.count c.requires.2 c.loop-i.i (omega arith) c.loop-i.invariant)

pub loop-i-preserved : goal.loop-i-preserved
unfolding run step
loop-i-preserved c = let a = c.args in each_more step (hadamard_half a.a a.count) c.loop-i.i _ c.loop-i.invariant c.hadamard.ensures
