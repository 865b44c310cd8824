use mathlib.Core.Path.{◌≡◌, refl, sym, ◌∙◌}
use mathlib.Core.Bool.{true, false, not}
use Prim.Native.Nat.{◌*◌}
use native.Mathlib.Nat.{mul-le-mul}
use native.Mathlib.Omega.{arith}
use borrow.Author.Tests.{not-true, not-false}
use mir.Syntax.{w64}
use mir.Val.{Fits}
use mir.Facts.{to_z-of_z}
use Rattle.answers.specs.Bad.{any_beyond}
use Rattle.answers.specs.Limits.{COEF_LIMIT}
use Rattle.answers.specs.Sizes.{area}
use Rattle.dc.proofs.Alone.{Alone, alone, area_some, area_more, dc_beyond, dc_written}
use Rattle.blocks.proofs.Inverse.{side_most}
use Rattle.idct.proofs.Answers.{made, left, in_range}
use Rattle.idct.proofs.Counted.{live_counted, none_counted, lossy_dc}
use Rattle.idct.proofs.fast.try_larger.Goals as goal
use Rattle.idct.proofs.fast.try_larger.Goals.{After-is_beyond, After-side-n0, After-within, Else-not-within, Start, Then-not-within, Then-only_dc}

-- numbers of the block
all_fits : (c : After-side-n0) → Fits w64 (c.side-n0.result * c.side-n0.result)
all_fits c = omega (arith, mul-le-mul c.side-n0.ensures.1 c.side-n0.ensures.1)

pub only_dc-requires : goal.only_dc-requires
only_dc-requires c = rw c.side-n0.ensures.0 (area_more c.args.n c.requires.1.least c.requires.1.most, c.requires.2)

only : (c : Then-only_dc) → Alone c.args.n c.args.tx_type c.args.block.now
only c =
    alone c.args.n c.args.tx_type c.args.block.now (rw c.side-n0.ensures.0 at (sym c.only_dc.ensures ∙ c.if-only_dc.true))

pub slice_copy_out-is_beyond : goal.slice_copy_out-is_beyond
slice_copy_out-is_beyond c = omega (arith, area_some c.args.n, c.requires.2)

-- place 0 is the only one that can be beyond
first : (c : After-is_beyond) → any_beyond COEF_LIMIT (area c.args.n) c.args.block.now ≡ c.is_beyond.result
first c =
    dc_beyond c.args.n c.args.block.now c.requires.1.least c.requires.1.most c.requires.2 (only c.before.before).dead
    ∙ sym (c.is_beyond.ensures ∙ rw (to_z-of_z {w = w64} (record { sfits = c.is_beyond-arg-1.given })))

pub dc_fill-requires : goal.dc_fill-requires
dc_fill-requires c =
    rw c.side-n0.ensures.0
    (c.requires.1.least, c.requires.1.most, area_some c.args.n, c.requires.2, (in_range (area c.args.n) c.args.block.now (first c.before.before ∙ c.if-is_beyond.false)).each 0 (area_some c.args.n))

pub returns-then-is_beyond : goal.returns-then-is_beyond
returns-then-is_beyond c =
    left (record { block = c.args.block.now; n = c.args.n; tx_type = c.args.tx_type; lossless = false }) refl refl (first c.before ∙ c.if-is_beyond.true)

pub returns-then-only_dc : goal.returns-then-only_dc
returns-then-only_dc c =
    made (record { block = c.args.block.now; n = c.args.n; tx_type = c.args.tx_type; lossless = false }) (first c.before.before.before.before.before ∙ c.if-is_beyond.false)
    (dc_written c.args.n c.args.block.now c.requires.1.least c.requires.1.most c.requires.2 (only c.before.before.before.before.before.before.before).dead (only c.before.before.before.before.before.before.before).zero_kind (rw c.side-n0.ensures.0 at c.dc_fill.ensures))
    (none_counted (record { block = c.args.block.now; n = c.args.n; tx_type = c.args.tx_type; lossless = false }) (lossy_dc c.args.block.now c.args.n c.args.tx_type ∙ rw c.side-n0.ensures.0 at (sym c.only_dc.ensures ∙ c.if-only_dc.true)) c.no_rows.ensures)

pub within-requires : goal.within-requires
within-requires c = rw c.side-n0.ensures.0 c.requires.2

-- the exact test of the limit
tested : (c : After-within) → c.within.result ≡ not (any_beyond COEF_LIMIT (area c.args.n) c.args.block.now)
tested c = rw c.side-n0.ensures.0 at c.within.ensures

beyond : (c : Then-not-within) → any_beyond COEF_LIMIT (area c.args.n) c.args.block.now ≡ true
beyond c = not-false _ (sym (tested c.before) ∙ c.if-not-within.true)

within : (c : Else-not-within) → any_beyond COEF_LIMIT (area c.args.n) c.args.block.now ≡ false
within c = not-true _ (sym (tested c.before) ∙ c.if-not-within.false)

pub returns-then-not-within : goal.returns-then-not-within
returns-then-not-within c =
    left (record { block = c.args.block.now; n = c.args.n; tx_type = c.args.tx_type; lossless = false }) refl refl (beyond c)

pub both_passes-requires : goal.both_passes-requires
both_passes-requires c =
    (c.requires.0, c.requires.1, c.requires.2, in_range (area c.args.n) c.args.block.now (within c.before))

pub returns : goal.returns
returns c =
    let m = c.both_passes.ensures in
    made (record { block = c.args.block.now; n = c.args.n; tx_type = c.args.tx_type; lossless = false }) (within c.before.before.before) m.written
    (live_counted (record { block = c.args.block.now; n = c.args.n; tx_type = c.args.tx_type; lossless = false }) (side_most c.args.n c.requires.1.least c.requires.1.most) (lossy_dc c.args.block.now c.args.n c.args.tx_type ∙ rw c.side-n0.ensures.0 at (sym c.only_dc.ensures ∙ c.if-only_dc.false)) m.counted)

pub overflow_mul-n0 : goal.overflow_mul-n0
overflow_mul-n0 c = all_fits c

pub overflow_mul-n0-then-only_dc : goal.overflow_mul-n0-then-only_dc
overflow_mul-n0-then-only_dc c = all_fits c.before.before.before.before.before.before

pub overflow_mul-n0-2 : goal.overflow_mul-n0-2
overflow_mul-n0-2 c = all_fits c.before.before
