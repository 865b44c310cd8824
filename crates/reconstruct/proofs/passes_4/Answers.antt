-- `reconstruct::passes_4` meets its contract.
use mathlib.Core.Path.{refl, ◌∙◌}
use Rattle.reconstruct.proofs.Residual.{as_lossless, as_lossy}
use Rattle.reconstruct.proofs.passes_4.Goals as goal

pub returns-then-lossless : goal.returns-then-lossless
returns-then-lossless c =
    let a = c.args in
    c.wht_passes.ensures ∙ as_lossless a.tx_type a.lossless c.if-lossless.true a.block.now

pub returns : goal.returns
returns c =
    let a = c.args in
    c.lossy_passes.ensures ∙ as_lossy a.tx_type a.tx_type a.lossless refl c.if-lossless.false a.block.now
