use mathlib.Core.Path.{◌∙◌}
use mir.Syntax.{w64}
use mir.ValLaws.{to_z-of_z}
use Rattle.whole.proofs.Signed.{rd_ok}
use Rattle.summary.proofs.coefficient.Goals as goal

pub dequant_at-requires : goal.dequant_at-requires
dequant_at-requires c = rw (to_z-of_z w64 c.args.token c.ranges.token) c.requires

pub returns : goal.returns
returns c =
    rd_ok w64 {z = c.dequant_at.result} c.dequant_at.type_inv ∙ c.dequant_at.ensures ∙ rw (to_z-of_z w64 c.args.token c.ranges.token)
