use lib.ListN.{length}
use Rattle.vbk_text.specs.Text.{answer_line}
use Rattle.vbk_text.proofs.Writing.{pieces_none, pieces_room, pieces_more, pieces_done, pieces_length}
use Rattle.vbk_text.proofs.put_answers.Goals as goal

pub loop-i-init : goal.loop-i-init
loop-i-init c =
    let a = c.args in pieces_none a.out.now a.at (length a.answers.now) (answer_line a.answers.now) c.requires

pub put_answer-place-requires : goal.put_answer-place-requires
put_answer-place-requires c = (c.loop-i-test.true, pieces_room c.loop-i.invariant c.loop-i-test.true)

pub loop-i-preserved : goal.loop-i-preserved
loop-i-preserved c =
    pieces_more c.loop-i.invariant c.loop-i-test.true c.put_answer-place.ensures

pub shape_of-out : goal.shape_of-out
shape_of-out c = pieces_length c.loop-i.invariant

pub returns : goal.returns
returns c = pieces_done c.loop-i.invariant c.loop-i-test.false
