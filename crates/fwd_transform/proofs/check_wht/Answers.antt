use mathlib.Core.Path.{sym, ◌∙◌}
use borrow.Author.Tests.{ne_eqb}
use Rattle.fwd_transform.specs.ForwardWht.{wht_answer}
use Rattle.fwd_transform.proofs.check_wht.Goals as goal

pub returns-then-n-ne16 : goal.returns-then-n-ne16
unfolding wht_answer
returns-then-n-ne16 c = rw (ne_eqb _ _ c.if-n-ne16.true)

pub returns-then-any_beyond : goal.returns-then-any_beyond
unfolding wht_answer
returns-then-any_beyond c = rw (sym c.any_beyond.ensures ∙ c.if-any_beyond.true, c.if-n-ne16.false)

pub returns : goal.returns
unfolding wht_answer
returns c = rw (sym c.any_beyond.ensures ∙ c.if-any_beyond.false, c.if-n-ne16.false)
