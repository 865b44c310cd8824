use mathlib.Core.Path.{◌∙◌}
use mir.Syntax.{w64}
use mir.ValLaws.{to_z-of_z}
use Rattle.quant.proofs.Machine.{magnitude_is, minus_fits, minus_is, sign_minus, sign_plus}
use Rattle.quant.proofs.with_sign.Goals as goal

pub overflow_sub-result : goal.overflow_sub-result
overflow_sub-result c = minus_fits c.args.m c.requires

pub returns-then-coef-lt0 : goal.returns-then-coef-lt0
returns-then-coef-lt0 c =
    let a = c.args in
    minus_is a.m c.requires ∙ sign_minus a.coef a.m (rw (to_z-of_z w64 a.coef c.ranges.coef) at c.if-coef-lt0.true)

pub returns : goal.returns
returns c =
    let a = c.args in
    magnitude_is a.m c.requires ∙ sign_plus a.coef a.m (rw (to_z-of_z w64 a.coef c.ranges.coef) at c.if-coef-lt0.false)
