use mathlib.Core.Path.{◌∙◌}
use Prim.Native.Nat.{◌/◌}
use native.Mathlib.Omega.{arith}
use borrow.Author.Tests.{le-leb, lt-leb}
use Rattle.whole.specs.Steps.{run, each}
use Rattle.whole.proofs.Steps.{each_more, each_done, ok_turn, ok_here, ok_when, run_when, run_skip}
use Rattle.steps.specs.Step.{step}
use Rattle.dct.specs.Dct.{turn3, steps3}
use Rattle.dct.proofs.stage3.Goals as goal

pub returns-then-n-lt3 : goal.returns-then-n-lt3
unfolding steps3
returns-then-n-lt3 c = run_skip step _ _ (lt-leb 3 c.args.n c.if-n-lt3.true)

pub hadamard-requires : goal.hadamard-requires
unfolding steps3
hadamard-requires c =
    let n0 = c.args.n0 in
    let all = ok_when (each (n0 / 8) (λ i. each 2 (turn3 n0 i))) (le-leb 3 c.args.n c.if-n-lt3.false) c.requires.2 in
    let one = ok_turn (λ i. each 2 (turn3 n0 i)) (n0 / 8) all c.loop-i.i (omega arith) c.loop-i.invariant in
    ok_here (ok_turn (turn3 n0 c.loop-i.i) 2 one c.loop-j.j (omega arith) c.loop-j.invariant)

pub loop-j-preserved : goal.loop-j-preserved
unfolding run step
loop-j-preserved c = each_more step _ _ _ c.loop-j.invariant c.hadamard.ensures

pub returns : goal.returns
unfolding steps3
returns c =
    each_done step (λ i. each 2 (turn3 c.args.n0 i)) c.loop-i.i (c.args.n0 / 8) c.args.t.now (omega arith) (omega arith) c.loop-i.invariant
    ∙ run_when step _ _ (le-leb 3 c.args.n c.if-n-lt3.false)
