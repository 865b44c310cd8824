use lib.ListN.{length}
use Rattle.vbk_text.specs.Text.{answer_line}
use Rattle.vbk_text.proofs.Writing.{Pieces}
use Rattle.vbk_text.proofs.put_answers.Given as goal

abbrev pub invariant-loop-i : goal.invariant-loop-i
invariant-loop-i l = Pieces l.initial.out l.initial.place (length l.answers) (answer_line l.answers) l.i l.out l.place
