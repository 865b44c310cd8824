use Prim.Native.Nat.{◌/◌}
use native.Mathlib.Omega.{arith}
use borrow.Author.Rules.{rules}
use mir.Syntax.{w32}
use Rattle.whole.specs.Steps.{run}
use Rattle.whole.proofs.Signed.{rd_ok}
use Rattle.whole.proofs.Steps.{each_more, ok_turn, ok_here, loops}
use Rattle.steps.specs.Step.{step}
use Rattle.dct.specs.Dct.{turn2, steps2}
use Rattle.dct.proofs.stage2.Goals as goal

pub butterfly-requires : goal.butterfly-requires
unfolding steps2
butterfly-requires c =
    ok_here (ok_turn (turn2 c.args.n0) (c.args.n0 / 4) c.requires.2 c.loop-i.i (omega arith) c.loop-i.invariant)

pub loop-i-preserved : goal.loop-i-preserved
unfolding run step
loop-i-preserved c =
    let a = c.angle2-angle in
    each_more step _ _ _ c.loop-i.invariant (rw (rd_ok w32 a.type_inv, a.ensures) at c.butterfly.ensures)

pub returns : goal.returns
unfolding steps2
returns c = search (rules, loops)
