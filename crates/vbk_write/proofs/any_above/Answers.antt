use mathlib.Core.Path.{sym, ap, ◌∙◌}
use native.Mathlib.Nat as N
use borrow.Author.Rules.{rules}
use borrow.Author.Tests.{tests}
use lib.Dec.{ltb}
use lib.ListN.{length}
use Rattle.std.proofs.Math.Seq.{take-length}
use Rattle.std.proofs.lemmas.Iterator.{YieldsList-from_slice}
use Rattle.std.proofs.lemmas.Iterator.Search.{any_from_yields_List}
use Rattle.std.specs.List.{list_any}
use Rattle.whole.proofs.Scans.{any_front}
use Rattle.vbk_write.specs.Promises.{any_above}
use Rattle.vbk_write.proofs.any_above.Goals as goal

pub returns : goal.returns
unfolding any_above
returns c =
    let l = c.args.list.now in
    any_from_yields_List (λ t. ltb c.args.most t) _ _ c.any.result c.any.ensures.ran (YieldsList-from_slice _ cc) (λ x b q k. search (rules, tests))
    ∙ ap (list_any (λ t. ltb c.args.most t)) (sym (take-length l)) ∙ any_front (λ t. ltb c.args.most t) 0 (length l) l (N.le_refl _)
