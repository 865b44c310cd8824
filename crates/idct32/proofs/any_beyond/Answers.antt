-- `idct32::any_beyond` meets its contract.
use mathlib.Core.Path.{◌∙◌}
use borrow.Author.Rules.{rules}
use borrow.Author.Tests.{tests}
use lib.Dec.{ltb}
use lib.IntN.{pos, nat_abs}
use lib.ListN.{take}
use Rattle.std.proofs.lemmas.Iterator.{YieldsList-from_slice}
use Rattle.std.proofs.lemmas.Iterator.Search.{any_from_yields_List}
use Rattle.whole.proofs.Scans.{any_front}
use Rattle.answers.specs.Bad.{any_beyond}
use Rattle.answers.specs.Limits.{COEF_LIMIT}
use Rattle.idct32.proofs.any_beyond.Goals as goal

pub returns : goal.returns
unfolding any_beyond
returns c =
    any_from_yields_List {all = take c.args.count c.args.block.now} (λ t. ltb COEF_LIMIT (nat_abs t)) _ _ c.any.result c.any.ensures.ran (YieldsList-from_slice _ cc) (λ x b q k. search (rules, tests))
    ∙ any_front (λ t. ltb COEF_LIMIT (nat_abs t)) (pos 0) c.args.count c.args.block.now c.requires
