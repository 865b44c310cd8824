use mathlib.Core.Bool.{not}
use lib.Dec.{eqb}
use mathlib.Core.Path.{◌≡◌}
use Prim.Native.Nat.{◌^◌}
use lib.ListN.{length}
use lib.Pow.{pow_pos}
use Rattle.blocks.specs.Block.{rows}
use Rattle.blocks.specs.Inverse.{apply, row_pass}
use Rattle.blocks.proofs.Passes.{row_valid, row_wht}
use Rattle.blocks.proofs.Inverse.{after_rows, both_passes}
use Rattle.summary.specs.Summary.{live_rows}
use Rattle.row_pass.proofs.Turn.{own_rows}
use Rattle.passes.proofs.by_summary.Given.{Over}
use Rattle.passes.proofs.by_summary.Goals as goal
use Rattle.passes.proofs.by_summary.Goals.{After-rows-count}

-- all rows are done, and the live ones are counted
all : (g : Over) (c : After-rows-count g) → let b = c.args.block.now in
    (c.rows-count.new.block ≡ rows (apply (row_pass c.args.tx_type (not (eqb g.row.LOSSLESS 0))) g.row.N) (2 ^ g.row.N) b) × (c.rows-count.result.number ≡ length (live_rows (2 ^ g.row.N) b))
all g c =
    let q = c.requires.0 in
    own_rows (row_pass c.args.tx_type (not (eqb g.row.LOSSLESS 0))) g.row.N q.least q.most (row_valid g.row.N c.args.tx_type (not (eqb g.row.LOSSLESS 0)) q) c.args.block.now c.requires.1
    (rw c.side.ensures.0 at c.scan-live.ensures) (rw c.row_transform.ensures at c.rows-count.ensures)

pub side-requires : goal.side-requires
side-requires g c = (c.requires.0.least, c.requires.0.most)

pub scan-live-requires : goal.scan-live-requires
scan-live-requires g c =
    let e = c.side.ensures.0 in
    (rw e (pow_pos g.row.N), c.side.ensures.1, rw e c.requires.1)

pub rows-count-requires : goal.rows-count-requires
rows-count-requires g c =
    let q = c.requires.0 in
    (q.least, q.most, rw c.row_transform.ensures (row_valid g.row.N c.args.tx_type (not (eqb g.row.LOSSLESS 0)) q), c.requires.1, c.requires.2, rw c.row_transform.ensures (row_wht c.args.tx_type (not (eqb g.row.LOSSLESS 0))))

pub columns-requires : goal.columns-requires
columns-requires g c =
    let q = c.requires.0 in
    let p = row_pass c.args.tx_type (not (eqb g.row.LOSSLESS 0)) in
    let r = after_rows p g.row.N q.least q.most (row_valid g.row.N c.args.tx_type (not (eqb g.row.LOSSLESS 0)) q) _ _ c.requires.1 c.requires.2 (all g c.before.before).0 in
    (q, r.0, r.1)

pub returns : goal.returns
returns g c =
    let a = all g c.before.before.before.before in
    record { written = both_passes g.row.N c.args.tx_type (not (eqb g.row.LOSSLESS 0)) c.args.block.now _ a.0 c.columns.ensures; counted = a.1 }
