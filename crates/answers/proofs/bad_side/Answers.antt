use borrow.Author.Tests.{lt-ltb, le-ltb}
use Rattle.answers.specs.Bad.{bad_side}
use Rattle.answers.proofs.bad_side.Goals as goal

pub returns-then-n-lt2 : goal.returns-then-n-lt2
unfolding bad_side
returns-then-n-lt2 c = rw (lt-ltb _ _ c.if-n-lt2.true)

pub returns-else-n-lt2 : goal.returns-else-n-lt2
unfolding bad_side
returns-else-n-lt2 c = rw (le-ltb _ _ c.if-n-lt2.false)
