-- `tested::put` meets its contract.
use mathlib.Core.Path.{sym, ◌∙◌, ◌≡◌}
use mir.Facts.{to_z-of_z}
use Rattle.narrow.specs.Kept.{short}
use Rattle.narrow.specs.Inner.{short_pair}
use mathlib.Core.Bool.{true}
use Rattle.tested.proofs.Answers.{stops, not_first, not_second, both_short}
use Rattle.tested.proofs.put.Goals as goal
use Rattle.tested.proofs.put.Goals.{After-is_short, After-is_short-2, Else-not-is_short-2}

x_is : (c : After-is_short) → c.is_short.result ≡ short c.args.x
x_is c = rw (to_z-of_z c.ranges.x) at c.is_short.ensures

y_is : (c : After-is_short-2) → c.is_short-2.result ≡ short c.args.y
y_is c = rw (to_z-of_z c.ranges.y) at c.is_short-2.ensures

-- both tests passed
fine : (c : Else-not-is_short-2) → short_pair c.args.x c.args.y ≡ true
fine c =
    both_short c.args.x c.args.y (sym (x_is c.before.before.before) ∙ c.if-not-is_short.false) (sym (y_is c.before) ∙ c.if-not-is_short-2.false)

pub returns-then-not-is_short : goal.returns-then-not-is_short
returns-then-not-is_short c = stops (not_first c.args.x c.args.y (sym (x_is c.before) ∙ c.if-not-is_short.true))

pub returns-then-not-is_short-2 : goal.returns-then-not-is_short-2
returns-then-not-is_short-2 c = stops (not_second c.args.x c.args.y (sym (y_is c.before) ∙ c.if-not-is_short-2.true))

pub put16-requires : goal.put16-requires
put16-requires c =
    (c.requires.0, c.requires.1, rw (to_z-of_z c.ranges.x, to_z-of_z c.ranges.y) (fine c.before))

pub returns : goal.returns
returns c =
    (sym (fine c.before.before), λ e. rw (to_z-of_z c.ranges.x, to_z-of_z c.ranges.y) at c.put16.ensures)
