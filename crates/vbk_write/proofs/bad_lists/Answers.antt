use mathlib.Core.Bool.{not}
use mathlib.Core.List.{[], ◌∷◌}
use borrow.Author.Rules.{rules}
use borrow.Author.Tests.{tests}
use lib.Dec.{eqb}
use lib.ListN.{length}
use Rattle.std.proofs.lemmas.Iterator.{YieldsList-from_slice}
use Rattle.std.proofs.lemmas.Iterator.Search.{any_from_yields_List}
use Rattle.vbk_write.specs.Promises.{bad_lists}
use Rattle.vbk_write.proofs.bad_lists.Goals as goal

pub returns : goal.returns
unfolding bad_lists
returns c =
    let l = c.args.l in
    let lengths = length l.ys.now ∷ length l.sizes.now ∷ length l.tx_types.now ∷ length l.lossless.now ∷ length l.dcs.now ∷ length l.acs.now ∷ length l.counts.now ∷ [] in
    any_from_yields_List {all = lengths} (λ m. not (eqb m (length c.args.l.xs.now))) _ _ c.any.result c.any.ensures.ran (YieldsList-from_slice _ cc) (λ x b q k. search (rules, tests))
