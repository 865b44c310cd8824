use mathlib.Core.Path.{sym}
use native.Mathlib.Omega.{arith}
use borrow.Author.Tests.{ne_eqb}
use mir.Syntax.{w64}
use mir.ValLaws.{to_z-of_z}
use Rattle.quant.proofs.Halves.{half_fits, whole_is}
use Rattle.quant.proofs.divided.Goals as goal

pub returns-then-size-eq3 : goal.returns-then-size-eq3
returns-then-size-eq3 c =
    rw (c.if-size-eq3.true, to_z-of_z w64 c.args.product c.ranges.product, to_z-of_z w64 _ (half_fits c.args.product c.ranges.product))

pub returns : goal.returns
returns c = rw (ne_eqb _ _ c.if-size-eq3.false, to_z-of_z w64 c.args.product c.ranges.product) (sym (whole_is c.args.product))

pub nonzero_div-result : goal.nonzero_div-result
nonzero_div-result c = rw (to_z-of_z w64 c.args.product c.ranges.product) (omega arith, half_fits c.args.product c.ranges.product)
