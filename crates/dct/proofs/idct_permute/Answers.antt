use Prim.Native.Nat.{◌^◌}
use native.Mathlib.Omega.{arith}
use lib.IntN.{pos}
use mir.Syntax.{w64}
use Rattle.whole.proofs.Signed.{rd_ok}
use Rattle.steps.specs.Step.{step}
use lib.ListN.{get_or}
use Rattle.whole.specs.Lists.{move}
use Rattle.whole.proofs.Lists.{fill_none, fill_more, fill_done}
use Rattle.primitives.proofs.Reversal.{brev_lt}
use Rattle.dct.proofs.idct_permute.Goals as goal

pub loop-i-init : goal.loop-i-init
loop-i-init c = fill_none _ _

pub offset_bounds-copy_t-brev : goal.offset_bounds-copy_t-brev
offset_bounds-copy_t-brev c =
    omega (arith, c.brev.ensures, brev_lt c.args.n c.loop-i.i, c.side-i-end.ensures.0, c.side-i-end.ensures.1)

pub bounds-copy_t-brev : goal.bounds-copy_t-brev
bounds-copy_t-brev c =
    omega (arith, c.brev.ensures, brev_lt c.args.n c.loop-i.i, c.side-i-end.ensures.0, c.side-i-end.ensures.1)

pub loop-i-preserved : goal.loop-i-preserved
loop-i-preserved c =
    let e = rd_ok w64 {z = get_or c.args.t.now c.brev.result (pos 0)} c.t-1.given in
    fill_more _ _ _ c.loop-i.invariant (rw (e, c.brev.ensures))

pub returns : goal.returns
unfolding step move
returns c =
    let n = c.args.n in
    fill_done _ _ c.loop-i.i (2 ^ n) (omega (arith, c.side-i-end.ensures.0)) (omega (arith, c.side-i-end.ensures.0)) c.loop-i.invariant
