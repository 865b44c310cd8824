-- `idct32::columns` meets its contract.
use mathlib.Core.Path.{sym, subst}
use Rattle.std.specs.Prelude.{is_ok}
use Rattle.blocks.specs.Inverse.{Pass}
use Rattle.blocks.proofs.Passes.{Valid, column_valid}
use Rattle.tested.specs.Line.{pass_of}
use Rattle.idct32.proofs.Told.{told_columns, sized_of}
use Rattle.idct32.proofs.columns.Goals as goal

pub columns-requires : goal.columns-requires
columns-requires c =
    let n = c.args.n in
    let p = c.requires.0 in
    (p.least, p.most, sized_of c.column_kind.result n 0 (subst (λ (q : Pass). Valid 0 q n) (sym c.column_kind.ensures) (column_valid n c.args.tx_type c.args.lossless p)), c.requires.1)

pub returns : goal.returns
returns c =
    let o = c.columns.ensures in
    let e = c.column_kind.ensures in
    record { is = rw e at (told_columns (pass_of c.column_kind.result) c.args.n c.args.work.now (is_ok c.columns.result) o); then = rw e at o.made }
