use mathlib.Core.Path.{sym, ◌∙◌}
use Rattle.std.proofs.lemmas.Result.{err_from_is_err_and}
use Rattle.answers.proofs.Numbers.{refused_number}
use Rattle.reconstruct.specs.Reconstruct.{Input, answer_of}
use Rattle.report.proofs.Table.{beside_answer, beside_samples, fifteen, no_fifteen}
use Rattle.report.proofs.refused.Goals as goal
use Rattle.report.proofs.refused.Goals.{Start}

-- the block, at the corner of the plane
abbrev input : Start → Input
input s =
    record {
      samples = s.args.samples.now;
      plane = s.args.plane;
      x = 0;
      y = 0;
      size = s.args.tx_sz;
      tokens = s.args.tokens.now;
      dc = s.args.dc_quant;
      ac = s.args.ac_quant;
      tx_type = s.args.tx_type;
      lossless = s.args.lossless;
      depth = s.args.bit_depth;
    }

pub returns-in_err-reconstruct_block : goal.returns-in_err-reconstruct_block
returns-in_err-reconstruct_block c =
    let u = input (goal.at.returns-in_err-reconstruct_block c).Start in
    let p = err_from_is_err_and c.from_residual.result c.from_residual.ensures.1 in
    let k = c.in_err-reconstruct_block.ensures.answered ∙ beside_answer u in
    rw (p.1, p.2)
    (k ∙ no_fifteen (answer_of u) (λ e. refused_number c.in_err-reconstruct_block.field-0.0 (k ∙ e)), c.in_err-reconstruct_block.ensures.written ∙ beside_samples u)

pub returns : goal.returns
returns c =
    let u = input (goal.at.returns c).Start in
    let k = c.in_ok-reconstruct_block.ensures.answered ∙ beside_answer u in
    (fifteen (answer_of u) (sym k), c.in_ok-reconstruct_block.ensures.written ∙ beside_samples u)
