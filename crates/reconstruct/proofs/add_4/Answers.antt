-- `reconstruct::add_4` meets its contract.
use mathlib.Core.Path.{◌≡◌, refl, ◌∙◌}
use native.Mathlib.Omega.{arith}
use Rattle.plane.proofs.Block.{same_residuals}
use Rattle.blocks.specs.Inverse.{inverse2d}
use Rattle.blocks.proofs.Inverse.{inverse2d_length}
use Rattle.reconstruct.specs.Reconstruct.{added}
use Rattle.reconstruct.proofs.Residual.{in_front, in_front_lem, block_length, block_within, residual_within, residual_at}
use Rattle.reconstruct.proofs.add_4.Lts as lts
use Rattle.reconstruct.proofs.add_4.Tie as tie
use Rattle.reconstruct.proofs.add_4.Reads as reads
use Rattle.reconstruct.proofs.add_4.Goals as goal

-- the place behind a call, with what was known there
abbrev After-dequantize : Type 0
After-dequantize = lts.After-dequantize tie.the-claims reads.Pre reads.Post

-- the place behind a call, with what was known there
abbrev After-passes_4 : Type 0
After-passes_4 = lts.After-passes_4 tie.the-claims reads.Pre reads.Post

-- the block after dequantizing
coefs : (c : After-dequantize) → let a = c.args in c.dequantize.new.block ≡ in_front 16 0 a.coding.dc_quant a.coding.ac_quant a.tokens.now
coefs c =
    let a = c.args in
    in_front_lem 16 0 a.coding.dc_quant a.coding.ac_quant a.tokens.now _ _ refl c.dequantize.ensures

-- and after the transform
residuals : (c : After-passes_4) → let a = c.args in
    c.passes_4.new.block ≡ inverse2d 2 a.coding.tx_type a.coding.lossless (in_front 16 0 a.coding.dc_quant a.coding.ac_quant a.tokens.now)
residuals c = rw (coefs c.before.before) at c.passes_4.ensures

pub dequantize-requires : goal.dequantize-requires
dequantize-requires c =
    let t = c.requires.1 in
    (omega arith, omega (arith, t.all), λ k h. t.codeables k (omega (arith, t.all)), t.quantizers)

pub passes_4-requires : goal.passes_4-requires
passes_4-requires c =
    let a = c.args in
    rw (coefs c.before.before)
    (block_length 0 a.coding.dc_quant a.coding.ac_quant a.coding.tx_type a.coding.lossless a.tokens.now c.requires.1, block_within 0 a.coding.dc_quant a.coding.ac_quant a.coding.tx_type a.coding.lossless a.tokens.now c.requires.1)

pub add_back4-requires : goal.add_back4-requires
add_back4-requires c =
    let a = c.args in
    let t = c.requires.1 in
    rw (residuals c.before.before) (
      c.requires.0,
      inverse2d_length 2 a.coding.tx_type a.coding.lossless (in_front 16 0 a.coding.dc_quant a.coding.ac_quant a.tokens.now) ∙ block_length 0 a.coding.dc_quant a.coding.ac_quant a.coding.tx_type a.coding.lossless a.tokens.now t,
      residual_within 0 a.coding.dc_quant a.coding.ac_quant a.coding.tx_type a.coding.lossless a.tokens.now t,
    )

pub returns : goal.returns
unfolding added
returns c =
    let a = c.args in
    c.add_back4.ensures
    ∙ rw (residuals c.before.before.before.before.before.before)
    (same_residuals a.plane a.samples.now c.requires.0 a.top a.x a.y 4 _ _
    (residual_at 0 a.coding.dc_quant a.coding.ac_quant a.coding.tx_type a.coding.lossless a.tokens.now c.requires.1))
