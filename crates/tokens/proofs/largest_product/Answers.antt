-- `tokens::largest_product` meets its contract.
use borrow.Author.Tests.{ne_eqb}
use Rattle.tokens.proofs.largest_product.Goals as goal

pub returns-then-size-eq3 : goal.returns-then-size-eq3
returns-then-size-eq3 c = rw c.if-size-eq3.true

pub returns : goal.returns
returns c = rw (ne_eqb _ _ c.if-size-eq3.false)
