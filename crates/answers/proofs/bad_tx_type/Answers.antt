use borrow.Author.Tests.{ne_eqb, lt-ltb, le-ltb}
use Rattle.answers.specs.Bad.{bad_tx_type}
use Rattle.answers.proofs.bad_tx_type.Goals as goal

pub returns-then-tx_type-gt3 : goal.returns-then-tx_type-gt3
unfolding bad_tx_type
returns-then-tx_type-gt3 c = rw (c.if-not-lossless.true, lt-ltb _ _ c.if-tx_type-gt3.true)

pub returns-then-size-eq3 : goal.returns-then-size-eq3
unfolding bad_tx_type
returns-then-size-eq3 c = rw (c.if-not-lossless.true, le-ltb _ _ c.if-tx_type-gt3.false, c.if-size-eq3.true)

pub returns-else-size-eq3 : goal.returns-else-size-eq3
unfolding bad_tx_type
returns-else-size-eq3 c = rw (c.if-not-lossless.true, le-ltb _ _ c.if-tx_type-gt3.false, ne_eqb _ _ c.if-size-eq3.false)

pub returns-else-not-lossless : goal.returns-else-not-lossless
unfolding bad_tx_type
returns-else-not-lossless c = rw c.if-not-lossless.false
