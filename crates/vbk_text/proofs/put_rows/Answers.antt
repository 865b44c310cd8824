use Rattle.vbk_text.specs.Text.{row_line}
use Rattle.vbk_text.proofs.Writing.{row_fits, pieces_none, pieces_room, pieces_more, pieces_done, pieces_length}
use Rattle.vbk_text.proofs.put_rows.Goals as goal

pub loop-r-init : goal.loop-r-init
loop-r-init c =
    let a = c.args in pieces_none a.out.now a.at a.height (row_line a.samples.now a.width) c.requires.1

pub put_row-place-requires : goal.put_row-place-requires
put_row-place-requires c =
    (row_fits c.loop-r.r c.args.width c.args.height c.loop-r-test.true c.requires.0, pieces_room c.loop-r.invariant c.loop-r-test.true)

pub loop-r-preserved : goal.loop-r-preserved
loop-r-preserved c =
    pieces_more c.loop-r.invariant c.loop-r-test.true c.put_row-place.ensures

pub shape_of-out : goal.shape_of-out
shape_of-out c = pieces_length c.loop-r.invariant

pub returns : goal.returns
returns c = pieces_done c.loop-r.invariant c.loop-r-test.false
