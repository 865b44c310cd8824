use borrow.Author.Tests.{le-leb, lt-leb}
use Rattle.vbk.specs.Promises.{roomy}
use Rattle.vbk.proofs.roomy.Goals as goal

pub returns-then-samples-ge-AREA_LIMIT : goal.returns-then-samples-ge-AREA_LIMIT
unfolding roomy
returns-then-samples-ge-AREA_LIMIT c = rw (le-leb 4096 _ c.if-samples-ge-AREA_LIMIT.true)

pub returns-else-samples-ge-AREA_LIMIT : goal.returns-else-samples-ge-AREA_LIMIT
unfolding roomy
returns-else-samples-ge-AREA_LIMIT c = rw (lt-leb 4096 _ c.if-samples-ge-AREA_LIMIT.false)
