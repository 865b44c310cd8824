use mathlib.Core.Path.{◌≡◌, refl, sym, ◌∙◌}
use mathlib.Core.Bool.{true, false}
use native.Mathlib.Omega.{arith}
use borrow.Author.Tests.{not-true, not-false}
use Rattle.answers.specs.Bad.{any_beyond}
use Rattle.answers.specs.Limits.{COEF_LIMIT}
use Rattle.idct.proofs.Answers.{made, left, in_range}
use Rattle.idct.proofs.Counted.{lossy_counted}
use Rattle.idct.proofs.fast.try_lossy4.Goals as goal
use Rattle.idct.proofs.fast.try_lossy4.Goals.{Else-not-within, Start, Then-not-within}

beyond : (c : Then-not-within) → any_beyond COEF_LIMIT 16 c.args.block.now ≡ true
beyond c = not-false _ (sym c.within.ensures ∙ c.if-not-within.true)

within : (c : Else-not-within) → any_beyond COEF_LIMIT 16 c.args.block.now ≡ false
within c = not-true _ (sym c.within.ensures ∙ c.if-not-within.false)

pub returns-then-not-within : goal.returns-then-not-within
returns-then-not-within c = left (record { block = c.args.block.now; n = 2; tx_type = c.args.tx_type; lossless = false }) refl refl (beyond c)

pub inverse4-requires : goal.inverse4-requires
inverse4-requires c = (c.requires, in_range 16 c.args.block.now (within c.before))

pub returns : goal.returns
returns c =
    let m = c.inverse4.ensures in
    made (record { block = c.args.block.now; n = 2; tx_type = c.args.tx_type; lossless = false }) (within c.before.before.before) m.written (lossy_counted c.args.block.now 2 c.args.tx_type (omega arith) m.counted)
