use Rattle.vbk_text.specs.Text.{row_line}
use Rattle.vbk_text.proofs.Writing.{Pieces}
use Rattle.vbk_text.proofs.put_rows.Given as goal

abbrev pub invariant-loop-r : goal.invariant-loop-r
invariant-loop-r l = Pieces l.initial.out l.initial.place l.height (row_line l.samples l.width) l.r l.out l.place
