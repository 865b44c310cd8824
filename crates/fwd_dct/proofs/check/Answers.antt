use mathlib.Core.Path.{◌≡◌, sym, ◌∙◌}
use mathlib.Core.Bool.{false}
use borrow.Author.Tests.{ne_eqb, eq-eqb}
use Rattle.answers.specs.Bad.{bad_side}
use Rattle.answers.proofs.Passed.{side_range}
use Rattle.fwd_dct.specs.Forward.{answer_of}
use Rattle.fwd_dct.proofs.check.Goals as goal
use Rattle.fwd_dct.proofs.check.Goals.{Else-bad_side}

-- the size has passed
no1 : (c : Else-bad_side) → bad_side c.args.n ≡ false
no1 c = sym c.bad_side.ensures ∙ c.if-bad_side.false

pub returns-then-bad_side : goal.returns-then-bad_side
unfolding answer_of
returns-then-bad_side c = rw (sym c.bad_side.ensures ∙ c.if-bad_side.true)

pub area-requires : goal.area-requires
area-requires c = side_range _ (no1 c)

pub returns-then-count-area : goal.returns-then-count-area
unfolding answer_of
returns-then-count-area c = rw (no1 c.before.before, ne_eqb _ _ (rw c.area.ensures.0 at c.if-count-area.true))

pub returns-then-any_beyond : goal.returns-then-any_beyond
unfolding answer_of
returns-then-any_beyond c =
    rw (no1 c.before.before.before.before, eq-eqb _ _ (c.if-count-area.false ∙ c.area.ensures.0), sym c.any_beyond.ensures ∙ c.if-any_beyond.true)

pub returns : goal.returns
unfolding answer_of
returns c =
    rw (no1 c.before.before.before.before, eq-eqb _ _ (c.if-count-area.false ∙ c.area.ensures.0), sym c.any_beyond.ensures ∙ c.if-any_beyond.false)
