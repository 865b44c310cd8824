use mathlib.Core.Bool.{not}
use lib.Dec.{eqb}
use Rattle.blocks.specs.Inverse.{row_pass}
use Rattle.blocks.proofs.Passes.{row_valid}
use Rattle.blocks.proofs.Inverse.{after_rows, both_passes}
use Rattle.small_passes.proofs.Small.{small}
use Rattle.small_passes.proofs.untested.Goals as goal

pub columns-requires : goal.columns-requires
columns-requires g c =
    let q = small c.args.tx_type (not (eqb g.row.LOSSLESS 0)) in
    let r = after_rows (row_pass c.args.tx_type (not (eqb g.row.LOSSLESS 0))) 2 q.least q.most (row_valid 2 c.args.tx_type (not (eqb g.row.LOSSLESS 0)) q) _ _ c.requires.0 c.requires.1 c.all_rows.ensures in
    (q, r.0, r.1)

pub returns : goal.returns
returns g c = both_passes 2 c.args.tx_type (not (eqb g.row.LOSSLESS 0)) c.args.block.now _ c.all_rows.ensures c.columns.ensures
