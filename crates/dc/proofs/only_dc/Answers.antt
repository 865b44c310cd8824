use native.Mathlib.Omega.{arith}
use mathlib.Core.Path.{ap}
use mathlib.Core.Bool.{not}
use borrow.Author.Tests.{ne_eqb}
use Rattle.blocks.specs.Block.{only_dc}
use Rattle.dc.proofs.only_dc.Goals as goal

pub returns-then-tx_type-eq0 : goal.returns-then-tx_type-eq0
unfolding only_dc
returns-then-tx_type-eq0 c = rw c.if-tx_type-eq0.true (ap not c.any_live_first.ensures)

pub returns-else-tx_type-eq0 : goal.returns-else-tx_type-eq0
unfolding only_dc
returns-else-tx_type-eq0 c = rw (ne_eqb _ _ c.if-tx_type-eq0.false)

pub any_live_first-requires : goal.any_live_first-requires
any_live_first-requires c = (omega arith, omega arith)
