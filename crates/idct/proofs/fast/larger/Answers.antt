use mathlib.Core.Path.{◌≡◌, sym, ◌∙◌}
use mathlib.Core.Bool.{true}
use Rattle.answers.specs.Sizes.{area}
use Rattle.blocks.specs.Block.{only_dc}
use Rattle.dc.proofs.Alone.{alone, area_some, area_more, dc_written}
use Rattle.idct.proofs.fast.larger.Goals as goal
use Rattle.idct.proofs.fast.larger.Goals.{Then-only_dc}

pub only_dc-requires : goal.only_dc-requires
only_dc-requires c = rw c.area-count.ensures.0 (area_more c.args.n c.requires.1.least c.requires.1.most, c.requires.2)

only : (c : Then-only_dc) → only_dc (area c.args.n) c.args.tx_type c.args.block.now ≡ true
only c = rw c.area-count.ensures.0 at (sym c.only_dc.ensures ∙ c.if-only_dc.true)

pub dc_fill-requires : goal.dc_fill-requires
dc_fill-requires c =
    rw c.area-count.ensures.0 (c.requires.1.least, c.requires.1.most, area_some c.args.n, c.requires.2, c.requires.3.each 0 (area_some c.args.n))

pub returns-then-only_dc : goal.returns-then-only_dc
returns-then-only_dc c =
    let a = alone c.args.n c.args.tx_type c.args.block.now (only c.before.before.before.before) in
    record {
      written = dc_written c.args.n c.args.block.now c.requires.1.least c.requires.1.most c.requires.2 a.dead a.zero_kind (rw c.area-count.ensures.0 at c.dc_fill.ensures);
      counted = rw (only c.before.before.before.before) c.no_rows.ensures;
    }

pub returns : goal.returns
returns c =
    let m = c.both_passes.ensures in
    record { written = m.written; counted = rw (rw c.area-count.ensures.0 at (sym c.only_dc.ensures ∙ c.if-only_dc.false)) m.counted }
