-- `narrow::put` meets its contract.
use Rattle.narrow.specs.Inner.{set_both}
use Rattle.narrow.proofs.put.Goals as goal

pub returns-then-flip : goal.returns-then-flip
unfolding set_both
returns-then-flip g c = rw c.if-flip.true

pub returns-else-flip : goal.returns-else-flip
unfolding set_both
returns-else-flip g c = rw c.if-flip.false
