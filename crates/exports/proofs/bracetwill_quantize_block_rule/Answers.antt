use mathlib.Core.Path.{◌∙◌}
use mir.Syntax.{w32}
use mir.ValLaws.{to_z-of_z}
use Rattle.exports.proofs.bracetwill_quantize_block_rule.Goals as goal

-- the two quantizers, as they were handed over
pub returns : goal.returns
returns c =
    let e = rw (to_z-of_z w32 c.args.dc_quant c.ranges.dc_quant, to_z-of_z w32 c.args.ac_quant c.ranges.ac_quant) at c.quantize_block_rule-a.ensures in
    record { answered = c.code.ensures ∙ e.answered; written = e.written }
