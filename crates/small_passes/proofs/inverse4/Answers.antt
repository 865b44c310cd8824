use mathlib.Core.Path.{◌≡◌, sym, ◌∙◌}
use mathlib.Core.Bool.{true, false}
use native.Mathlib.Omega.{arith}
use Rattle.blocks.specs.Block.{only_dc}
use Rattle.dc.proofs.Alone.{alone, dc_written}
use Rattle.small_passes.proofs.Small.{small}
use Rattle.small_passes.proofs.inverse4.Goals as goal
use Rattle.small_passes.proofs.inverse4.Goals.{Then-only_dc}

-- only place 0 is live
only : (c : Then-only_dc) → only_dc 16 c.args.tx_type c.args.block.now ≡ true
only c = sym c.only_dc.ensures ∙ c.if-only_dc.true

pub dc_fill-requires : goal.dc_fill-requires
dc_fill-requires c = (omega arith, omega arith, omega arith, c.requires.0, c.requires.1.each 0 (omega arith))

pub returns-then-only_dc : goal.returns-then-only_dc
returns-then-only_dc c =
    let a = alone 2 c.args.tx_type c.args.block.now (only c.before.before.before.before) in
    record {
      written = dc_written 2 c.args.block.now (omega arith) (omega arith) c.requires.0 a.dead a.zero_kind c.dc_fill.ensures;
      counted = rw (only c.before.before.before.before) c.no_rows.ensures;
    }

pub by_summary-requires : goal.by_summary-requires
by_summary-requires c = (small c.args.tx_type false, c.requires.0, c.requires.1)

pub returns : goal.returns
returns c =
    let m = c.by_summary.ensures in
    record { written = m.written; counted = rw (sym c.only_dc.ensures ∙ c.if-only_dc.false) m.counted }
