use borrow.Author.Tests.{eq-eqb, ne_eqb}
use Rattle.vbk_read.specs.Header.{bad_area}
use Rattle.vbk_read.proofs.bad_area.Goals as goal

pub returns-then-area-eq0 : goal.returns-then-area-eq0
unfolding bad_area
returns-then-area-eq0 c = rw (eq-eqb c.args.area 0 c.if-area-eq0.true)

pub returns-else-area-eq0 : goal.returns-else-area-eq0
unfolding bad_area
returns-else-area-eq0 c = rw (ne_eqb c.args.area 0 c.if-area-eq0.false)
