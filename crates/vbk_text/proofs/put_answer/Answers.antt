use mathlib.Core.Path.{sym, ap}
use mathlib.Core.List.{[], ◌∷◌}
use lib.ListN.{get_or}
use Rattle.whole.specs.Steps.{◌⨾◌}
use Rattle.vbk_text.specs.Text.{word, newline, answer_line}
use Rattle.vbk_text.proofs.Writing.{put_as, room_as, todo_all, todo_room, todo_next, todo_last}
use Rattle.vbk_text.proofs.put_answer.Goals as goal

pub put_byte-a-requires : goal.put_byte-a-requires
unfolding answer_line
put_byte-a-requires c =
    let a = c.args in
    todo_room (66 ∷ []) (word a.index ⨾ word (get_or a.answers.now a.index 0) ⨾ newline) (todo_all a.out.now a.at (answer_line a.answers.now a.index) c.requires.1)

pub put_word-b-requires : goal.put_word-b-requires
unfolding answer_line
put_word-b-requires c =
    let a = c.args in
    let w = word (get_or a.answers.now a.index 0) in
    let left1 = todo_next (66 ∷ []) (word a.index ⨾ w ⨾ newline) (todo_all a.out.now a.at (answer_line a.answers.now a.index) c.requires.1) c.put_byte-a.ensures in
    todo_room (word a.index) (w ⨾ newline) left1

pub put_word-c-requires : goal.put_word-c-requires
unfolding answer_line
put_word-c-requires c =
    let a = c.args in
    let w = word (get_or a.answers.now a.index 0) in
    let left1 = todo_next (66 ∷ []) (word a.index ⨾ w ⨾ newline) (todo_all a.out.now a.at (answer_line a.answers.now a.index) c.requires.1) c.put_byte-a.ensures in
    let left2 = todo_next (word a.index) (w ⨾ newline) left1 c.put_word-b.ensures in
    room_as c.put_word-b.new.out c.put_word-b.result (ap word (sym c.from.ensures)) (todo_room w newline left2)

pub put_byte-requires : goal.put_byte-requires
unfolding answer_line
put_byte-requires c =
    let a = c.args in
    let w = word (get_or a.answers.now a.index 0) in
    let left1 = todo_next (66 ∷ []) (word a.index ⨾ w ⨾ newline) (todo_all a.out.now a.at (answer_line a.answers.now a.index) c.requires.1) c.put_byte-a.ensures in
    let left2 = todo_next (word a.index) (w ⨾ newline) left1 c.put_word-b.ensures in
    (todo_next w newline left2 (put_as (ap word c.from.ensures) c.put_word-c.ensures)).room

pub returns : goal.returns
unfolding answer_line
returns c =
    let a = c.args in
    let w = word (get_or a.answers.now a.index 0) in
    let left1 = todo_next (66 ∷ []) (word a.index ⨾ w ⨾ newline) (todo_all a.out.now a.at (answer_line a.answers.now a.index) c.requires.1) c.put_byte-a.ensures in
    let left2 = todo_next (word a.index) (w ⨾ newline) left1 c.put_word-b.ensures in
    todo_last (todo_next w newline left2 (put_as (ap word c.from.ensures) c.put_word-c.ensures)) c.put_byte.ensures
