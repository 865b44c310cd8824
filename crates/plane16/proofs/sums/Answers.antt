-- `plane16::sums` meets its contract.
use mathlib.Core.Path.{ap}
use Prim.Native.Nat.{◌+◌}
use native.Mathlib.Omega.{arith}
use lib.IntN.{pos}
use lib.ListN.{get_or, set}
use mir.Syntax.{w16}
use mir.ValLaws.{to_z-of_z}
use Rattle.whole.proofs.Lists.{fill_none, fill_more, fill_done}
use Rattle.plane16.proofs.sums.Goals as goal

pub loop-j-preserved : goal.loop-j-preserved
loop-j-preserved c =
    let a = c.args in
    let e = to_z-of_z w16 (get_or a.z.now (a.from + c.loop-j.j) (pos 0)) (record { sfits = c.clip-arg-1.given }) in
    (omega arith, fill_more _ _ c.loop-j.j c.loop-j.invariant.1 (ap (set c.loop-j.o c.loop-j.j) (rw e at c.clip.ensures)))

pub returns : goal.returns
returns c = fill_done _ _ c.loop-j.j 8 (omega arith) (omega arith) c.loop-j.invariant.1

pub loop-j-init : goal.loop-j-init
loop-j-init c = (omega arith, fill_none _ _)
