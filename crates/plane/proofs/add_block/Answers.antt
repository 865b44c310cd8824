-- `plane::add_block` meets its contract.
use mathlib.Core.Path.{sym, ◌∙◌}
use Rattle.plane.proofs.Block.{no_column}
use Rattle.plane.proofs.add_block.Goals as goal

pub returns-then-cols-eq0 : goal.returns-then-cols-eq0
returns-then-cols-eq0 g c =
    let a = c.args in
    no_column a.plane a.samples.now c.requires.samples_of a.top a.x a.y a.n0 (g.R.Residuals.residual a.residuals) (sym c.cut-cols.ensures ∙ c.if-cols-eq0.true)
