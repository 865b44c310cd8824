-- `reconstruct::quick` meets its contract.
use mathlib.Core.Path.{refl}
use Rattle.reconstruct.proofs.quick.Goals as goal

pub add_short-requires : goal.add_short-requires
add_short-requires c = (c.requires.0, rw c.if-coding-eq1.true at c.requires.1, refl)

pub returns-then-coding-eq1 : goal.returns-then-coding-eq1
returns-then-coding-eq1 c = rw c.if-coding-eq1.true c.add_short.ensures
