-- `adst::adst_output_permute` meets its contract.
use Prim.Native.Nat.{◌^◌}
use native.Mathlib.Omega.{arith}
use lib.IntN.{pos}
use lib.ListN.{get_or}
use mir.Syntax.{w64}
use Rattle.whole.specs.Lists.{move}
use Rattle.whole.proofs.Lists.{fill_none, fill_more, fill_done}
use Rattle.whole.proofs.Signed.{rd_ok}
use Rattle.steps.specs.Step.{step}
use Rattle.adst.proofs.adst_output_permute.Goals as goal

pub loop-k-init : goal.loop-k-init
loop-k-init c = fill_none _ _

pub loop-k-preserved : goal.loop-k-preserved
loop-k-preserved c =
    let r = c.output_place in
    let e = rd_ok w64 {z = get_or c.args.t.now r.result (pos 0)} c.t-1.given in
    fill_more _ _ _ c.loop-k.invariant (rw (e, r.ensures.0))

pub returns : goal.returns
unfolding step move
returns c =
    let n = c.args.n in
    fill_done _ _ c.loop-k.k (2 ^ n) (omega (arith, c.side-k-end.ensures.0)) (omega (arith, c.side-k-end.ensures.0)) c.loop-k.invariant
