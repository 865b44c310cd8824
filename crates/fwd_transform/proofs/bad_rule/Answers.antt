use borrow.Author.Tests.{lt-ltb, le-ltb}
use Rattle.fwd_transform.specs.Quantize.{bad_rule}
use Rattle.fwd_transform.proofs.bad_rule.Goals as goal

pub returns-then-rule-lt1 : goal.returns-then-rule-lt1
unfolding bad_rule
returns-then-rule-lt1 c = rw (lt-ltb _ _ c.if-rule-lt1.true)

pub returns : goal.returns
unfolding bad_rule
returns c = rw (le-ltb _ _ c.if-rule-lt1.false)
