-- `reconstruct::add_wide` meets its contract.
use mathlib.Core.Path.{refl, sym, ◌∙◌}
use mathlib.Core.Bool.{false}
use Prim.Native.Nat.{◌+◌}
use native.Mathlib.Nat as NatL
use native.Mathlib.Omega.{arith}
use lib.ListN.{length}
use Rattle.plane.proofs.Block.{same_residuals}
use Rattle.blocks.proofs.Inverse.{inverse2d_length}
use Rattle.answers.specs.Sizes.{side, area}
use Rattle.reconstruct.specs.Reconstruct.{added}
use Rattle.tokens.proofs.Sizes.{area_most, side_most, in_block}
use Rattle.reconstruct.proofs.Residual.{size_most, in_front, in_front_lem, block_length, block_room, block_within, residual_within, residual_at}
use Rattle.reconstruct.proofs.add_wide.Goals as goal

pub dequantize-requires : goal.dequantize-requires
dequantize-requires c =
    let a = c.args in
    let t = c.requires.1 in
    (omega (arith, t.all, area_most a.coding.size (size_most a.coding.size a.coding.dc_quant a.coding.ac_quant a.coding.tx_type false a.tokens.now t)), omega arith, t.codeables, t.quantizers)

pub slice_bounds-both_passes-end : goal.slice_bounds-both_passes-end
slice_bounds-both_passes-end c =
    let a = c.args in
    let e = rw c.requires.1.all at (in_front_lem (length a.tokens.now) a.coding.size a.coding.dc_quant a.coding.ac_quant a.tokens.now _ _ refl c.dequantize.ensures) in
    rw e (sym (block_length a.coding.size a.coding.dc_quant a.coding.ac_quant a.coding.tx_type false a.tokens.now c.requires.1))

pub both_passes-requires : goal.both_passes-requires
both_passes-requires c =
    let a = c.args in
    let e = rw c.requires.1.all at (in_front_lem (length a.tokens.now) a.coding.size a.coding.dc_quant a.coding.ac_quant a.tokens.now _ _ refl c.dequantize.ensures) in
    let t = c.requires.1 in
    rw e (
      omega (arith, c.requires.2),
      t.possible,
      block_room a.coding.size a.coding.dc_quant a.coding.ac_quant a.coding.tx_type false a.tokens.now t,
      block_within a.coding.size a.coding.dc_quant a.coding.ac_quant a.coding.tx_type false a.tokens.now t,
    )

pub add_back-requires : goal.add_back-requires
add_back-requires c =
    let a = c.args in
    let e = rw c.requires.1.all at (in_front_lem (length a.tokens.now) a.coding.size a.coding.dc_quant a.coding.ac_quant a.tokens.now _ _ refl c.dequantize.ensures) in
    let r = rw e at c.both_passes.ensures.written in
    let t = c.requires.1 in
    let h = side_most a.coding.size (size_most a.coding.size a.coding.dc_quant a.coding.ac_quant a.coding.tx_type false a.tokens.now t) in
    let b = in_front (area (a.coding.size + 2)) a.coding.size a.coding.dc_quant a.coding.ac_quant a.tokens.now in
    rw (r, c.side-n0.ensures.0) (
      c.requires.0,
      h,
      h,
      λ i j hi hj. rw (inverse2d_length (a.coding.size + 2) a.coding.tx_type false b) (NatL.lt_of_lt_of_le (in_block a.coding.size i j hi hj) (block_room a.coding.size a.coding.dc_quant a.coding.ac_quant a.coding.tx_type false a.tokens.now t)),
      residual_within a.coding.size a.coding.dc_quant a.coding.ac_quant a.coding.tx_type false a.tokens.now t,
    )

pub returns : goal.returns
unfolding added
returns c =
    let a = c.args in
    let e = rw c.requires.1.all at (in_front_lem (length a.tokens.now) a.coding.size a.coding.dc_quant a.coding.ac_quant a.tokens.now _ _ refl c.dequantize.ensures) in
    let r = rw e at c.both_passes.ensures.written in
    c.add_back.ensures
    ∙ rw (r, c.side-n0.ensures.0)
    (same_residuals a.plane a.samples.now c.requires.0 a.top a.x a.y (side (a.coding.size + 2)) _ _
    (residual_at a.coding.size a.coding.dc_quant a.coding.ac_quant a.coding.tx_type false a.tokens.now c.requires.1))
