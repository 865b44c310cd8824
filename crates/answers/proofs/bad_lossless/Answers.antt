use Rattle.answers.specs.Bad.{bad_lossless}
use Rattle.answers.proofs.bad_lossless.Goals as goal

pub returns-then-lossless : goal.returns-then-lossless
unfolding bad_lossless
returns-then-lossless c = rw c.if-lossless.true

pub returns-else-lossless : goal.returns-else-lossless
unfolding bad_lossless
returns-else-lossless c = rw c.if-lossless.false
