use mathlib.Core.Path.{◌≡◌, refl, sym, ◌∙◌}
use mathlib.Core.Bool.{true, false, not}
use borrow.Author.Tests.{not-true, not-false}
use Rattle.answers.specs.Bad.{any_beyond}
use Rattle.answers.specs.Limits.{COEF_LIMIT}
use Rattle.answers.specs.Sizes.{area}
use Rattle.idct.proofs.Answers.{made, left, in_range}
use Rattle.idct.proofs.fast.try_any.Goals as goal
use Rattle.idct.proofs.fast.try_any.Goals.{After-within, Else-not-within, Start, Then-not-within}

pub within-requires : goal.within-requires
within-requires c = rw c.area-count.ensures.0 c.requires.1

-- the exact test of the limit
tested : (c : After-within) → c.within.result ≡ not (any_beyond COEF_LIMIT (area c.args.n) c.args.block.now)
tested c = rw c.area-count.ensures.0 at c.within.ensures

beyond : (c : Then-not-within) → any_beyond COEF_LIMIT (area c.args.n) c.args.block.now ≡ true
beyond c = not-false _ (sym (tested c.before) ∙ c.if-not-within.true)

within : (c : Else-not-within) → any_beyond COEF_LIMIT (area c.args.n) c.args.block.now ≡ false
within c = not-true _ (sym (tested c.before) ∙ c.if-not-within.false)

pub returns-then-not-within : goal.returns-then-not-within
returns-then-not-within c = left (record { block = c.args.block.now; n = c.args.n; tx_type = c.args.tx_type; lossless = c.args.lossless }) refl refl (beyond c)

pub residual-requires : goal.residual-requires
residual-requires c =
    (c.requires.0, c.requires.1, in_range (area c.args.n) c.args.block.now (within c.before))

pub returns : goal.returns
returns c =
    made (record { block = c.args.block.now; n = c.args.n; tx_type = c.args.tx_type; lossless = c.args.lossless }) (within c.before.before.before) c.residual.ensures.0 c.residual.ensures.1

pub area-count-requires : goal.area-count-requires
area-count-requires c = (c.requires.0.least, c.requires.0.most)
