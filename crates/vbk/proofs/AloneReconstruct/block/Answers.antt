use mathlib.Core.Path.{◌≡◌, ◌∙◌}
use lib.IntN.{pos}
use mir.Syntax.{w32}
use mir.Val.{to_z, of_z}
use Rattle.vbk_read.proofs.Signed.{back32}
use Rattle.vbk.proofs.Tokens.{answer_is, samples_are}
use Rattle.vbk.proofs.AloneReconstruct.block.Goals as goal

pub returns : goal.returns
returns c =
    let a = c.args in
    let e = c.reconstruct_block.ensures in
    let q1 = c.quantizer in
    let q2 = c.quantizer-2 in
    let d : to_z w32 (of_z w32 q1.result) ≡ pos a.head.dc = back32 q1.result q1.type_inv ∙ q1.ensures in
    let b : to_z w32 (of_z w32 q2.result) ≡ pos a.head.ac = back32 q2.result q2.type_inv ∙ q2.ensures in
    record {
      answered = e.answered ∙ answer_is a.samples.now a.fields a.head a.tokens.now c.plane_of.ensures d b;
      written = e.written ∙ samples_are a.samples.now a.fields a.head a.tokens.now c.plane_of.ensures d b;
    }
