use mathlib.Core.Path.{◌∙◌}
use Prim.Native.Nat.{◌/◌}
use native.Mathlib.Omega.{arith}
use borrow.Author.Tests.{le-leb, lt-leb}
use Rattle.whole.specs.Steps.{run, each}
use Rattle.whole.proofs.Steps.{each_more, each_done, ok_turn, ok_here, ok_when, run_when, run_skip}
use Rattle.steps.specs.Step.{step}
use Rattle.dct.specs.Dct.{turn6, steps6}
use Rattle.dct.proofs.stage6.Goals as goal

pub returns-then-n-lt3 : goal.returns-then-n-lt3
unfolding steps6
returns-then-n-lt3 c = run_skip step _ _ (lt-leb 3 c.args.n c.if-n-lt3.true)

pub butterfly-requires : goal.butterfly-requires
unfolding steps6
butterfly-requires c =
    let n0 = c.args.n0 in
    let all = ok_when (each (n0 / 8) (turn6 n0)) (le-leb 3 c.args.n c.if-n-lt3.false) c.requires.2 in
    ok_here (ok_turn (turn6 n0) (n0 / 8) all c.loop-i.i (omega arith) c.loop-i.invariant)

pub loop-i-preserved : goal.loop-i-preserved
unfolding run step
loop-i-preserved c = each_more step _ _ _ c.loop-i.invariant c.butterfly.ensures

pub returns : goal.returns
unfolding steps6
returns c =
    each_done step (turn6 c.args.n0) c.loop-i.i (c.args.n0 / 8) c.args.t.now (omega arith) (omega arith) c.loop-i.invariant
    ∙ run_when step _ _ (le-leb 3 c.args.n c.if-n-lt3.false)
