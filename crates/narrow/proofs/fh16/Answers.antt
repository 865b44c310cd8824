use Rattle.primitives.specs.Rotations.{apply_h}
use Rattle.steps.specs.Step.{step}
use Rattle.narrow.specs.Inner.{fits}
use Rattle.narrow.proofs.fh16.Goals as goal

pub sums16-requires : goal.sums16-requires
unfolding fits
sums16-requires c = (c.requires.1, c.requires.0, rw c.if-flip.true at c.requires.2)

pub sums16-requires-else-flip : goal.sums16-requires-else-flip
unfolding fits
sums16-requires-else-flip c = (c.requires.0, c.requires.1, rw c.if-flip.false at c.requires.2)

pub returns-then-flip : goal.returns-then-flip
unfolding step apply_h
returns-then-flip c = rw c.if-flip.true c.sums16.ensures

pub returns-else-flip : goal.returns-else-flip
unfolding step apply_h
returns-else-flip c = rw c.if-flip.false c.sums16-else-flip.ensures
