-- `flat::reorder` meets its contract.
use native.Mathlib.Omega.{arith}
use lib.IntN.{pos}
use lib.ListN.{length, get_or}
use mir.Syntax.{w64}
use Rattle.whole.specs.Lists.{move}
use Rattle.whole.proofs.Lists.{fill_none, fill_more, fill_done}
use Rattle.whole.proofs.Signed.{rd_ok}
use Rattle.steps.specs.Step.{step}
use Rattle.flat.proofs.reorder.Goals as goal

pub loop-i-preserved : goal.loop-i-preserved
loop-i-preserved c =
    let e = rd_ok w64 {z = get_or c.args.t.now (get_or c.args.from.now c.loop-i.i 0) (pos 0)} c.t-1.given in
    (omega arith, fill_more _ _ _ c.loop-i.invariant.1 (rw e))

pub returns : goal.returns
unfolding step move
returns c = fill_done _ _ c.loop-i.i (length c.args.from.now) (omega arith) (omega arith) c.loop-i.invariant.1

pub loop-i-init : goal.loop-i-init
loop-i-init c = (omega arith, fill_none _ _)

pub offset_bounds-copy_t-from : goal.offset_bounds-copy_t-from
offset_bounds-copy_t-from c = omega (arith, c.requires.1 c.loop-i.i (omega arith))

pub bounds-copy_t-from : goal.bounds-copy_t-from
bounds-copy_t-from c = c.requires.1 c.loop-i.i (omega arith)
