-- `residual16::flat` meets its contract.
use Rattle.std.proofs.Common.{refl, arith, w16}
use mir.ValLaws.{to_z-of_z}
use Rattle.whole.proofs.Lists.{fill_none, fill_more, fill_done}
use Rattle.residual16.proofs.flat.Goals as goal

pub loop-k-preserved : goal.loop-k-preserved
loop-k-preserved c =
    let l = c.loop-k in
    (omega arith, fill_more _ _ l.k l.invariant.1 refl)

pub returns : goal.returns
returns c =
    rw (to_z-of_z w16 c.args.v c.ranges.v) at (fill_done _ _ c.loop-k.k c.args.count (omega arith) (omega arith) c.loop-k.invariant.1)

pub loop-k-init : goal.loop-k-init
loop-k-init c = (omega arith, fill_none _ _)
