-- `idct32::rows` meets its contract.
use mathlib.Core.Path.{sym, subst}
use Rattle.std.specs.Prelude.{is_ok}
use Rattle.blocks.specs.Inverse.{Pass}
use Rattle.blocks.proofs.Passes.{Valid, row_valid}
use Rattle.tested.specs.Line.{pass_of}
use Rattle.idct32.proofs.Told.{told_rows, sized_of}
use Rattle.idct32.proofs.rows.Goals as goal

pub rows-requires : goal.rows-requires
rows-requires c =
    let n = c.args.n in
    let p = c.requires.0 in
    (p.least, p.most, sized_of c.row_kind.result n 2 (subst (λ (q : Pass). Valid 2 q n) (sym c.row_kind.ensures) (row_valid n c.args.tx_type c.args.lossless p)), c.requires.1)

pub returns : goal.returns
returns c =
    let o = c.rows.ensures in
    let e = c.row_kind.ensures in
    record { is = rw e at (told_rows (pass_of c.row_kind.result) c.args.n c.args.work.now (is_ok c.rows.result) o); then = rw e at o.made }
