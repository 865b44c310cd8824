use mathlib.Core.Path.{refl}
use native.Mathlib.Omega.{arith}
use borrow.Author.Tests.{ne_eqb}
use Rattle.quant.proofs.short.Goals as goal

pub returns-then-rule-eq2 : goal.returns-then-rule-eq2
returns-then-rule-eq2 c = rw c.if-rule-eq2.true (refl, omega arith)

pub returns : goal.returns
returns c = rw (ne_eqb _ _ c.if-rule-eq2.false) (refl, omega arith)
