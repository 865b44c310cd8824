use Rattle.blocks.specs.Inverse.{rounding}
use borrow.Author.Rules.{rules}
use Rattle.blocks.proofs.store_column.Goals as goal

pub store-requires : goal.store-requires
store-requires c = (c.side-n0.ensures.1, rw c.side-n0.ensures.0 c.requires.2)

pub store_rounded-requires : goal.store_rounded-requires
store_rounded-requires c =
    (c.side-n0.ensures.1, rw c.side-n0.ensures.0 c.requires.2, search rules, search rules, rw c.side-n0.ensures.0 c.requires.3)

pub returns-then-lossless : goal.returns-then-lossless
unfolding rounding
returns-then-lossless c =
    rw c.if-lossless.true (rw c.side-n0.ensures.0 at c.store.ensures)

pub returns-else-lossless : goal.returns-else-lossless
unfolding rounding
returns-else-lossless c =
    rw c.if-lossless.false (rw (c.side-n0.ensures.0, c.rounding_bits.ensures.0) at c.store_rounded.ensures)
