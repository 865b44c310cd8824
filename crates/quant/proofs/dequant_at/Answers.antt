use mathlib.Core.Path.{◌∙◌}
use borrow.Author.Tests.{ne_eqb}
use mir.Syntax.{w64}
use mir.ValLaws.{to_z-of_z}
use Rattle.whole.proofs.Signed.{rd_ok}
use Rattle.answers.specs.Bad.{bad_quantizer}
use Rattle.quant.specs.Places.{quantizer_at}
use Rattle.quant.proofs.Places.{left_fine, right_fine}
use Rattle.quant.proofs.dequant_at.Goals as goal

pub dequant-requires : goal.dequant-requires
dequant-requires c = rw (to_z-of_z w64 c.args.token c.ranges.token) (left_fine (bad_quantizer c.args.dc_quant.0) (bad_quantizer c.args.ac_quant.0) c.requires.0, c.requires.1)

pub returns-then-place-eq0 : goal.returns-then-place-eq0
unfolding quantizer_at
returns-then-place-eq0 c =
    rd_ok w64 {z = c.dequant.result} c.dequant.type_inv ∙ c.dequant.ensures ∙ rw (to_z-of_z w64 c.args.token c.ranges.token, c.if-place-eq0.true)

pub dequant-requires-2 : goal.dequant-requires-2
dequant-requires-2 c = rw (to_z-of_z w64 c.args.token c.ranges.token) (right_fine (bad_quantizer c.args.dc_quant.0) (bad_quantizer c.args.ac_quant.0) c.requires.0, c.requires.1)

pub returns : goal.returns
unfolding quantizer_at
returns c =
    rd_ok w64 {z = c.dequant-2.result} c.dequant-2.type_inv ∙ c.dequant-2.ensures
    ∙ rw (to_z-of_z w64 c.args.token c.ranges.token, ne_eqb c.args.place 0 c.if-place-eq0.false)
