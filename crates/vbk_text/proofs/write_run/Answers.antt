use lib.ListN.{length}
use Rattle.whole.specs.Steps.{each, ◌⨾◌}
use Rattle.vbk_text.specs.Text.{header_line, answer_line, row_line, touched_line, ran, text}
use Rattle.vbk_text.proofs.Writing.{todo_all, todo_room, todo_next, todo_last}
use Rattle.vbk_text.proofs.write_run.Goals as goal

pub put_header-a-requires : goal.put_header-a-requires
unfolding text
put_header-a-requires c =
    let a = c.args in
    let answers = each (length a.answers.now) (answer_line a.answers.now) in
    let rows = each a.height (row_line a.samples.now a.width) in
    todo_room (header_line a.version a.depth a.width a.height) (answers ⨾ rows ⨾ touched_line a.touched)
    (todo_all a.out.now 0 (text (ran a.version a.depth a.width a.height a.answers.now a.samples.now a.touched)) c.requires.1)

pub put_answers-b-requires : goal.put_answers-b-requires
unfolding text
put_answers-b-requires c =
    let a = c.args in
    let answers = each (length a.answers.now) (answer_line a.answers.now) in
    let rows = each a.height (row_line a.samples.now a.width) in
    let left1 =
    todo_next (header_line a.version a.depth a.width a.height) (answers ⨾ rows ⨾ touched_line a.touched)
    (todo_all a.out.now 0 (text (ran a.version a.depth a.width a.height a.answers.now a.samples.now a.touched)) c.requires.1)
    c.put_header-a.ensures in
    todo_room answers (rows ⨾ touched_line a.touched) left1

pub put_rows-c-requires : goal.put_rows-c-requires
unfolding text
put_rows-c-requires c =
    let a = c.args in
    let answers = each (length a.answers.now) (answer_line a.answers.now) in
    let rows = each a.height (row_line a.samples.now a.width) in
    let left1 =
    todo_next (header_line a.version a.depth a.width a.height) (answers ⨾ rows ⨾ touched_line a.touched)
    (todo_all a.out.now 0 (text (ran a.version a.depth a.width a.height a.answers.now a.samples.now a.touched)) c.requires.1)
    c.put_header-a.ensures in
    let left2 = todo_next answers (rows ⨾ touched_line a.touched) left1 c.put_answers-b.ensures in
    (c.requires.0, todo_room rows (touched_line a.touched) left2)

pub put_number-requires : goal.put_number-requires
unfolding text
put_number-requires c =
    let a = c.args in
    let answers = each (length a.answers.now) (answer_line a.answers.now) in
    let rows = each a.height (row_line a.samples.now a.width) in
    let left1 =
    todo_next (header_line a.version a.depth a.width a.height) (answers ⨾ rows ⨾ touched_line a.touched)
    (todo_all a.out.now 0 (text (ran a.version a.depth a.width a.height a.answers.now a.samples.now a.touched)) c.requires.1)
    c.put_header-a.ensures in
    let left2 = todo_next answers (rows ⨾ touched_line a.touched) left1 c.put_answers-b.ensures in
    (todo_next rows (touched_line a.touched) left2 c.put_rows-c.ensures).room

pub returns : goal.returns
unfolding text
returns c =
    let a = c.args in
    let answers = each (length a.answers.now) (answer_line a.answers.now) in
    let rows = each a.height (row_line a.samples.now a.width) in
    let left1 =
    todo_next (header_line a.version a.depth a.width a.height) (answers ⨾ rows ⨾ touched_line a.touched)
    (todo_all a.out.now 0 (text (ran a.version a.depth a.width a.height a.answers.now a.samples.now a.touched)) c.requires.1)
    c.put_header-a.ensures in
    let left2 = todo_next answers (rows ⨾ touched_line a.touched) left1 c.put_answers-b.ensures in
    todo_last (todo_next rows (touched_line a.touched) left2 c.put_rows-c.ensures) c.put_number.ensures
