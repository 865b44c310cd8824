-- `add_row` of `Lines` meets its contract.
use mathlib.Core.Path.{refl}
use Prim.Native.Nat.{◌+◌, ◌*◌}
use native.Mathlib.Omega.{arith}
use lib.Dec.{lit<}
use lib.IntN.{pos}
use lib.ListN.{get_or, length-set}
use mir.Syntax.{w64}
use Rattle.whole.proofs.Within.{back}
use Rattle.plane.proofs.Row.{row_none, row_more}
use Rattle.plane.proofs.LinesResiduals.add_row.Goals as goal

pub loop-j-init : goal.loop-j-init
loop-j-init c =
    let a = c.args in
    (omega arith, refl, row_none a.top (λ j. get_or a.self.residual.now (a.i * a.self.step + j) (pos 0)) a.at a.samples.now)

pub loop-j-preserved : goal.loop-j-preserved
loop-j-preserved c =
    let a = c.args in
    let l = c.loop-j in
    let from = a.i * a.self.step in
    let e = back w64 (lit< tt) (c.requires.1.3.each (from + l.j)) in (
      omega arith,
      simp length-set l.invariant.1,
      row_more a.top (λ j. get_or a.self.residual.now (from + j) (pos 0)) a.at a.samples.now l.samples l.j c.clip.result l.invariant.2 (omega arith) (rw e at c.clip.ensures),
    )
