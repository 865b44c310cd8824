-- `idct32::passes` meets its contract.
use mathlib.Core.Path.{◌≡◌, sym, ap, ◌∙◌}
use mathlib.Core.Bool.{true}
use native.Mathlib.Omega.{arith}
use Rattle.std.specs.Prelude.{is_ok}
use Rattle.blocks.specs.Inverse.{row_pass}
use Rattle.idct32.specs.Engine.{kept_rows, within16}
use Rattle.idct32.proofs.Work.{area_most}
use Rattle.idct32.proofs.Small.{small_within16}
use Rattle.idct32.proofs.Told.{gone}
use Rattle.idct32.proofs.passes.Goals as goal

-- few magnitudes
pub returns-then-sum-le-FEW-clause-is : goal.returns-then-sum-le-FEW-clause-is
returns-then-sum-le-FEW-clause-is c =
    let p = c.requires.0 in
    sym (small_within16 c.args.n c.args.tx_type c.args.lossless c.args.work.now p (rw c.requires.1 (area_most c.args.n p.least p.most)) (omega (arith, c.requires.2, c.if-sum-le-FEW.true)))

-- a row left
pub returns-in_err-rows-clause-is : goal.returns-in_err-rows-clause-is
unfolding within16
returns-in_err-rows-clause-is c =
    rw (gone c.from_residual.result c.from_residual.ensures.0) (sym (rw (sym c.rows.ensures.is ∙ ap is_ok c.in_err-rows.was)))

-- the rows passed
pub returns-clause-is : goal.returns-clause-is
unfolding within16
returns-clause-is c =
    let e = ap is_ok c.in_ok-rows.was in
    let k : kept_rows (row_pass c.args.tx_type c.args.lossless) c.args.n c.args.work.now ≡ true = sym c.rows.ensures.is ∙ e in
    rw (k, ← c.rows.ensures.then e) c.columns.ensures.is
