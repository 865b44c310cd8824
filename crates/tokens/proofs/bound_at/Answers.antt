-- `tokens::bound_at` meets its contract.
use borrow.Author.Tests.{ne_eqb}
use Rattle.tokens.proofs.bound_at.Goals as goal

pub returns-then-k-eq0 : goal.returns-then-k-eq0
returns-then-k-eq0 c = rw c.if-k-eq0.true

pub returns : goal.returns
returns c = rw (ne_eqb _ _ c.if-k-eq0.false)
