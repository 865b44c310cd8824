use mathlib.Core.Path.{◌∙◌}
use borrow.Author.Tests.{ne_eqb}
use mir.Syntax.{w64}
use mir.ValLaws.{to_z-of_z}
use Rattle.whole.proofs.Signed.{rd_ok}
use Rattle.quant.specs.Places.{quantizer_at}
use Rattle.fwd_transform.proofs.token_at.Goals as goal

pub returns-then-k-eq0 : goal.returns-then-k-eq0
unfolding quantizer_at
returns-then-k-eq0 c =
    rd_ok w64 {z = c.quantize.result} c.quantize.type_inv ∙ c.quantize.ensures
    ∙ rw (to_z-of_z w64 c.args.coef c.ranges.coef, c.if-k-eq0.true)

pub returns : goal.returns
unfolding quantizer_at
returns c =
    rd_ok w64 {z = c.quantize-2.result} c.quantize-2.type_inv ∙ c.quantize-2.ensures
    ∙ rw (to_z-of_z w64 c.args.coef c.ranges.coef, ne_eqb c.args.k 0 c.if-k-eq0.false)
