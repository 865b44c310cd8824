-- `residual16::passes` meets its contract.
use Rattle.std.proofs.Common.{◌≡◌, ◌/◌, ◌≤◌, false, List, length, ℤ, refl, ap, ◌∙◌, arith}
use Rattle.answers.specs.Sizes.{side, area}
use Rattle.blocks.specs.Block.{rows, columns}
use Rattle.blocks.specs.Inverse.{apply, row_pass, column_pass, rounding}
use Rattle.blocks.proofs.Passes.{row_valid, column_valid, adst_side}
use Rattle.narrow.specs.Tile.{raster}
use Rattle.narrow.proofs.Tile.{raster_length}
use Rattle.weights.proofs.Blocks.{AllKept, small_kept}
use Rattle.residual16.proofs.Rounding.{rounded_tiles}
use Rattle.residual16.proofs.Tiles.{eights, area_most_n}
use Rattle.residual16.proofs.passes.Goals as goal
use Rattle.residual16.proofs.passes.Goals.{After-columns, After-rows, Start}

module _ (s : Start) where
  -- the block row by row
  abbrev block : List ℤ
  block = raster (side s.args.n) s.args.z.now

  room : area s.args.n ≤ length block
  room = omega (arith, raster_length (side s.args.n) s.args.z.now)

  -- every line stays within 16 bits
  kept : AllKept (row_pass s.args.tx_type false) (column_pass s.args.tx_type false) s.args.n block
  kept =
      let p = s.requires.1 in
      small_kept (row_pass s.args.tx_type false) (column_pass s.args.tx_type false) s.args.n block s.requires.0 p.most
      (row_valid s.args.n s.args.tx_type false p) (column_valid s.args.n s.args.tx_type false p) room s.requires.3

-- what the rows leave, and the columns
module _ (c : After-rows) where
  after_rows : raster (side c.args.n) c.rows.new.z ≡ rows (apply (row_pass c.args.tx_type false) c.args.n) (side c.args.n) (block c.before.before.before)
  after_rows = rw c.row_dct.ensures at c.rows.ensures.1

module _ (c : After-columns) where
  after_columns : raster (side c.args.n) c.columns.new.z
      ≡ columns (apply (column_pass c.args.tx_type false) c.args.n) (λ z. z) (side c.args.n) (rows (apply (row_pass c.args.tx_type false) c.args.n) (side c.args.n) (block c.before.before.before.before.before.before))
  after_columns = rw (c.column_dct.ensures, after_rows c.before.before.before) at c.columns.ensures.1

pub rows-requires : goal.rows-requires
rows-requires c =
    let p = c.requires.1 in
    rw c.row_dct.ensures
    (c.requires.0, p.most, adst_side 2 2 c.args.n false _ (row_valid c.args.n c.args.tx_type false p) refl, c.requires.2, c.requires.4, (kept c.before.before).of_row, c.requires.5)

pub columns-requires : goal.columns-requires
columns-requires c =
    let p = c.requires.1 in
    rw (c.column_dct.ensures, after_rows c.before.before)
    (c.requires.0, p.most, adst_side 0 0 c.args.n false _ (column_valid c.args.n c.args.tx_type false p) refl, c.rows.ensures.0, (kept c.before.before.before.before.before).of_column)

pub returns : goal.returns
unfolding rounding
returns c =
    ap (raster (side c.args.n)) c.round.ensures
    ∙ rounded_tiles c.args.n (side c.args.n / 8) c.args.tx_type (block c.before.before.before.before.before.before.before.before) c.columns.new.z (eights c.args.n c.requires.0 c.requires.1.most) (room c.before.before.before.before.before.before.before.before)
    (rw c.columns.ensures.0 (area_most_n c.args.n c.requires.1.least c.requires.1.most)) (after_columns c.before.before)

pub round-requires : goal.round-requires
round-requires c = (c.requires.0, c.requires.1.most, c.columns.ensures.0)
