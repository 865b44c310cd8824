use Prim.Native.Nat.{◌/◌}
use native.Mathlib.Omega.{arith}
use borrow.Author.Rules.{rules}
use Rattle.whole.specs.Steps.{run}
use Rattle.whole.proofs.Steps.{each_more, ok_turn, ok_here, loops}
use Rattle.steps.specs.Step.{step}
use Rattle.dct.specs.Dct.{turn7, steps7}
use Rattle.dct.proofs.stage7.Goals as goal

pub hadamard-requires : goal.hadamard-requires
unfolding steps7
hadamard-requires c =
    ok_here (ok_turn (turn7 c.args.n0) (c.args.n0 / 2) c.requires.2 c.loop-i.i (omega arith) c.loop-i.invariant)

pub loop-i-preserved : goal.loop-i-preserved
unfolding run step
loop-i-preserved c = each_more step _ _ _ c.loop-i.invariant c.hadamard.ensures

pub returns : goal.returns
unfolding steps7
returns c = search (rules, loops)
