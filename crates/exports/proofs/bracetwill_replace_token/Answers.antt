use mathlib.Core.Path.{◌∙◌}
use mir.Syntax.{w32, w64}
use mir.ValLaws.{to_z-of_z}
use Rattle.exports.proofs.Rows.{together}
use Rattle.exports.proofs.bracetwill_replace_token.Goals as goal

-- the two quantizers and the token, as they were handed over
pub returns : goal.returns
returns c =
    let e = rw (to_z-of_z w32 c.args.dc_quant c.ranges.dc_quant, to_z-of_z w32 c.args.ac_quant c.ranges.ac_quant, to_z-of_z w64 c.args.token c.ranges.token) at c.replace_token-a.ensures in
    record { answered = c.code.ensures ∙ e.answered; written = together _ _ e.written e.kept }
