-- `residual16::put` meets its contract.
use Rattle.std.proofs.Common.{◌+◌, get_or, set, pos, ap, arith, w16}
use mir.ValLaws.{to_z-of_z}
use Rattle.whole.proofs.Loops.{times_none, times_more, times_done}
use Rattle.residual16.proofs.put.Goals as goal

pub loop-j-preserved : goal.loop-j-preserved
loop-j-preserved c =
    let l = c.loop-j in
    let o = c.args.o.now in
    let e = to_z-of_z w16 (get_or o l.j (pos 0)) (record { sfits = c.z-1.given }) in
    (omega arith, times_more _ l.j _ l.invariant.1 (ap (set l.z (c.args.at + l.j)) e))

pub returns : goal.returns
returns c = times_done _ c.loop-j.j 8 _ (omega arith) (omega arith) c.loop-j.invariant.1

pub loop-j-init : goal.loop-j-init
loop-j-init c = (omega arith, times_none _ _)
