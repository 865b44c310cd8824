-- `reconstruct::add_short` meets its contract.
use mathlib.Core.Path.{◌∙◌}
use native.Mathlib.Omega.{arith}
use Rattle.residual16.specs.Inner.{Served}
use Rattle.tokens.proofs.Sizes.{side_most}
use Rattle.reconstruct.proofs.Residual.{short_added}
use Rattle.reconstruct.proofs.add_short.Goals as goal
use Rattle.reconstruct.proofs.add_short.Lts as lts
use Rattle.reconstruct.proofs.add_short.Tie as tie
use Rattle.reconstruct.proofs.add_short.Reads as reads

-- the place behind a step, with what was known there
abbrev Else-not-residual : Type 0
Else-not-residual = lts.Else1 tie.the-claims reads.Pre reads.Post

-- the residual stands in the block
served : (e : Else-not-residual) → let a = e.args in Served a.coding.size a.coding.dc_quant a.coding.ac_quant a.coding.tx_type a.tokens.now e.residual.new.z
served e = e.residual.ensures (e.if-not-residual.false)

pub add_back-requires : goal.add_back-requires
add_back-requires c =
    (c.requires.0, omega (arith, c.requires.2, side_most c.args.coding.size (omega (arith, c.requires.1.possible.most))))

pub returns : goal.returns
returns c =
    let a = c.args in
    let t = served c.before.before.before.before.before.before in
    record {
      small = record { small = λ k h. omega (arith, t.small k h) };
      written = rw c.requires.2 at c.add_back.ensures
          ∙ short_added a.plane a.top a.x a.y a.coding.size a.coding.dc_quant a.coding.ac_quant a.coding.tx_type a.tokens.now c.residual.new.z a.samples.now c.requires.0 t.made;
    }
