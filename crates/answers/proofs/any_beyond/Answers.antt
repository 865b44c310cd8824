use mathlib.Core.Path.{◌∙◌}
use borrow.Author.Rules.{rules}
use borrow.Author.Tests.{tests}
use lib.Dec.{ltb}
use lib.IntN.{pos, nat_abs}
use Rattle.std.proofs.lemmas.Iterator.{YieldsList-from_slice}
use Rattle.std.proofs.lemmas.Iterator.Search.{any_from_yields_List}
use Rattle.whole.proofs.Scans.{any_front}
use Rattle.answers.specs.Bad.{any_beyond}
use Rattle.answers.proofs.any_beyond.Goals as goal

pub returns : goal.returns
unfolding any_beyond
returns c =
    any_from_yields_List (λ t. ltb c.args.most (nat_abs t)) _ _ c.any.result c.any.ensures.ran (YieldsList-from_slice _ cc) (λ x b q k. search (rules, tests))
    ∙ any_front (λ t. ltb c.args.most (nat_abs t)) (pos 0) c.args.count c.args.list.now c.requires
