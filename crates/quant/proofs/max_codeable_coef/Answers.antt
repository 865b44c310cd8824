use borrow.Author.Tests.{ne_eqb}
use Rattle.quant.proofs.max_codeable_coef.Goals as goal

pub returns-in-8 : goal.returns-in-8
returns-in-8 c = rw c.in-8.is

pub returns-in-10 : goal.returns-in-10
returns-in-10 c = rw c.in-10.is

pub returns-in-12 : goal.returns-in-12
returns-in-12 c = rw c.in-12.is

pub returns-in_default : goal.returns-in_default
returns-in_default c = rw (ne_eqb _ _ c.in_default.in_default-own.rest.0.0.1, ne_eqb _ _ c.in_default.in_default-own.rest.0.1, ne_eqb _ _ c.in_default.in_default-own.rest.1)
