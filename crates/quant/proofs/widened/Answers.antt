use mathlib.Core.Path.{◌≡◌, ap, ◌∙◌}
use native.Mathlib.Omega.{arith}
use borrow.Author.Tests.{ne_eqb}
use lib.IntN.{nat_abs}
use mir.Syntax.{w64}
use mir.ValLaws.{to_z-of_z}
use Rattle.quant.proofs.widened.Goals as goal
use Rattle.quant.proofs.widened.Goals.{After-magnitude-a}

seen : (c : After-magnitude-a) → c.magnitude-a.result ≡ nat_abs c.args.coef
seen c = c.magnitude-a.ensures ∙ ap nat_abs (to_z-of_z w64 c.args.coef c.ranges.coef)

pub overflow_mul-result : goal.overflow_mul-result
overflow_mul-result c = record { fits = omega (arith, seen c.before) }

pub returns-then-size-eq3 : goal.returns-then-size-eq3
returns-then-size-eq3 c = rw c.if-size-eq3.true (omega (arith, seen c.before))

pub returns : goal.returns
returns c = rw (ne_eqb _ _ c.if-size-eq3.false) (omega (arith, seen c.before))
