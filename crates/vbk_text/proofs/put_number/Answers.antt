use mathlib.Core.List.{[], ◌∷◌}
use Prim.Native.Nat.{◌+◌}
use lib.ListN.{length}
use lib.Seq.{sets}
use Rattle.whole.specs.Steps.{◌⨾◌}
use Rattle.vbk_text.specs.Text.{word, newline, number_line}
use Rattle.vbk_text.proofs.Writing.{Todo, todo_all, todo_room, todo_next, todo_last}
use Rattle.vbk_text.proofs.put_number.Goals as goal
use Rattle.vbk_text.proofs.put_number.Goals.{After-put_byte-a, After-put_word-b}

-- what is left after call 1
left1 : (c : After-put_byte-a) → let a = c.args in Todo c.put_byte-a.new.out c.put_byte-a.result (word a.n ⨾ newline) (sets a.out.now a.at (number_line a.letter a.n)) (a.at + length (number_line a.letter a.n))
unfolding number_line
left1 c = let a = c.args in todo_next (a.letter ∷ []) (word a.n ⨾ newline) (todo_all a.out.now a.at (number_line a.letter a.n) c.requires) c.put_byte-a.ensures

-- what is left after call 2
left2 : (c : After-put_word-b) → let a = c.args in Todo c.put_word-b.new.out c.put_word-b.result (newline) (sets a.out.now a.at (number_line a.letter a.n)) (a.at + length (number_line a.letter a.n))
unfolding number_line
left2 c = let a = c.args in todo_next (word a.n) (newline) (left1 c.before.before.before.before) c.put_word-b.ensures

pub put_byte-a-requires : goal.put_byte-a-requires
unfolding number_line
put_byte-a-requires c = let a = c.args in todo_room (a.letter ∷ []) (word a.n ⨾ newline) (todo_all a.out.now a.at (number_line a.letter a.n) c.requires)

pub put_word-b-requires : goal.put_word-b-requires
unfolding number_line
put_word-b-requires c = let a = c.args in todo_room (word a.n) (newline) (left1 (goal.at.put_word-b-requires c).After-put_byte-a)

pub put_byte-requires : goal.put_byte-requires
unfolding number_line
put_byte-requires c = let a = c.args in (left2 (goal.at.put_byte-requires c).After-put_word-b).room

pub returns : goal.returns
unfolding number_line
returns c = let a = c.args in todo_last (left2 (goal.at.returns c).After-put_word-b) c.put_byte.ensures
