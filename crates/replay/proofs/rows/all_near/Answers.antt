use mathlib.Core.Path.{sym, ◌∙◌}
use borrow.Author.Tests.{not-true}
use Rattle.answers.proofs.Passed.{none_within}
use Rattle.replay.proofs.Tests.{never}
use Rattle.replay.proofs.rows.all_near.Goals as goal

pub returns-then-list-count : goal.returns-then-list-count
returns-then-list-count c h = never h

pub returns : goal.returns
returns c h =
    none_within c.args.most c.args.count c.args.list.now
    (sym c.any_beyond.ensures ∙ not-true c.any_beyond.result h)
