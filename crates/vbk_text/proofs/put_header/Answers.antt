use mathlib.Core.List.{[], ◌∷◌}
use Prim.Native.Nat.{◌+◌}
use lib.ListN.{length}
use lib.Seq.{sets}
use Rattle.whole.specs.Steps.{◌⨾◌}
use Rattle.vbk_text.specs.Text.{word, newline, header_line}
use Rattle.vbk_text.proofs.Writing.{Todo, todo_all, todo_room, todo_next, todo_last}
use Rattle.vbk_text.proofs.put_header.Goals as goal
use Rattle.vbk_text.proofs.put_header.Goals.{After-put_byte-a, After-put_byte-b, After-put_byte-c, After-put_word-d, After-put_word-e, After-put_word-f, After-put_word-g}

-- what is left after call 1
left1 : (c : After-put_byte-a) → let a = c.args in Todo c.put_byte-a.new.out c.put_byte-a.result (66 ∷ [] ⨾ 75 ∷ [] ⨾ word a.version ⨾ word a.depth ⨾ word a.width ⨾ word a.height ⨾ newline) (sets a.out.now a.at (header_line a.version a.depth a.width a.height)) (a.at + length (header_line a.version a.depth a.width a.height))
unfolding header_line
left1 c = let a = c.args in todo_next (86 ∷ []) (66 ∷ [] ⨾ 75 ∷ [] ⨾ word a.version ⨾ word a.depth ⨾ word a.width ⨾ word a.height ⨾ newline) (todo_all a.out.now a.at (header_line a.version a.depth a.width a.height) c.requires) c.put_byte-a.ensures

-- what is left after call 2
left2 : (c : After-put_byte-b) → let a = c.args in Todo c.put_byte-b.new.out c.put_byte-b.result (75 ∷ [] ⨾ word a.version ⨾ word a.depth ⨾ word a.width ⨾ word a.height ⨾ newline) (sets a.out.now a.at (header_line a.version a.depth a.width a.height)) (a.at + length (header_line a.version a.depth a.width a.height))
unfolding header_line
left2 c = let a = c.args in todo_next (66 ∷ []) (75 ∷ [] ⨾ word a.version ⨾ word a.depth ⨾ word a.width ⨾ word a.height ⨾ newline) (left1 c.before.before.before.before) c.put_byte-b.ensures

-- what is left after call 3
left3 : (c : After-put_byte-c) → let a = c.args in Todo c.put_byte-c.new.out c.put_byte-c.result (word a.version ⨾ word a.depth ⨾ word a.width ⨾ word a.height ⨾ newline) (sets a.out.now a.at (header_line a.version a.depth a.width a.height)) (a.at + length (header_line a.version a.depth a.width a.height))
unfolding header_line
left3 c = let a = c.args in todo_next (75 ∷ []) (word a.version ⨾ word a.depth ⨾ word a.width ⨾ word a.height ⨾ newline) (left2 c.before.before.before.before) c.put_byte-c.ensures

-- what is left after call 4
left4 : (c : After-put_word-d) → let a = c.args in Todo c.put_word-d.new.out c.put_word-d.result (word a.depth ⨾ word a.width ⨾ word a.height ⨾ newline) (sets a.out.now a.at (header_line a.version a.depth a.width a.height)) (a.at + length (header_line a.version a.depth a.width a.height))
unfolding header_line
left4 c = let a = c.args in todo_next (word a.version) (word a.depth ⨾ word a.width ⨾ word a.height ⨾ newline) (left3 c.before.before.before.before) c.put_word-d.ensures

-- what is left after call 5
left5 : (c : After-put_word-e) → let a = c.args in Todo c.put_word-e.new.out c.put_word-e.result (word a.width ⨾ word a.height ⨾ newline) (sets a.out.now a.at (header_line a.version a.depth a.width a.height)) (a.at + length (header_line a.version a.depth a.width a.height))
unfolding header_line
left5 c = let a = c.args in todo_next (word a.depth) (word a.width ⨾ word a.height ⨾ newline) (left4 c.before.before.before.before) c.put_word-e.ensures

-- what is left after call 6
left6 : (c : After-put_word-f) → let a = c.args in Todo c.put_word-f.new.out c.put_word-f.result (word a.height ⨾ newline) (sets a.out.now a.at (header_line a.version a.depth a.width a.height)) (a.at + length (header_line a.version a.depth a.width a.height))
unfolding header_line
left6 c = let a = c.args in todo_next (word a.width) (word a.height ⨾ newline) (left5 c.before.before.before.before) c.put_word-f.ensures

-- what is left after call 7
left7 : (c : After-put_word-g) → let a = c.args in Todo c.put_word-g.new.out c.put_word-g.result (newline) (sets a.out.now a.at (header_line a.version a.depth a.width a.height)) (a.at + length (header_line a.version a.depth a.width a.height))
unfolding header_line
left7 c = let a = c.args in todo_next (word a.height) (newline) (left6 c.before.before.before.before) c.put_word-g.ensures

pub put_byte-a-requires : goal.put_byte-a-requires
unfolding header_line
put_byte-a-requires c = let a = c.args in todo_room (86 ∷ []) (66 ∷ [] ⨾ 75 ∷ [] ⨾ word a.version ⨾ word a.depth ⨾ word a.width ⨾ word a.height ⨾ newline) (todo_all a.out.now a.at (header_line a.version a.depth a.width a.height) c.requires)

pub put_byte-b-requires : goal.put_byte-b-requires
unfolding header_line
put_byte-b-requires c = let a = c.args in todo_room (66 ∷ []) (75 ∷ [] ⨾ word a.version ⨾ word a.depth ⨾ word a.width ⨾ word a.height ⨾ newline) (left1 (goal.at.put_byte-b-requires c).After-put_byte-a)

pub put_byte-c-requires : goal.put_byte-c-requires
unfolding header_line
put_byte-c-requires c = let a = c.args in todo_room (75 ∷ []) (word a.version ⨾ word a.depth ⨾ word a.width ⨾ word a.height ⨾ newline) (left2 (goal.at.put_byte-c-requires c).After-put_byte-b)

pub put_word-d-requires : goal.put_word-d-requires
unfolding header_line
put_word-d-requires c = let a = c.args in todo_room (word a.version) (word a.depth ⨾ word a.width ⨾ word a.height ⨾ newline) (left3 (goal.at.put_word-d-requires c).After-put_byte-c)

pub put_word-e-requires : goal.put_word-e-requires
unfolding header_line
put_word-e-requires c = let a = c.args in todo_room (word a.depth) (word a.width ⨾ word a.height ⨾ newline) (left4 (goal.at.put_word-e-requires c).After-put_word-d)

pub put_word-f-requires : goal.put_word-f-requires
unfolding header_line
put_word-f-requires c = let a = c.args in todo_room (word a.width) (word a.height ⨾ newline) (left5 (goal.at.put_word-f-requires c).After-put_word-e)

pub put_word-g-requires : goal.put_word-g-requires
unfolding header_line
put_word-g-requires c = let a = c.args in todo_room (word a.height) (newline) (left6 (goal.at.put_word-g-requires c).After-put_word-f)

pub put_byte-requires : goal.put_byte-requires
unfolding header_line
put_byte-requires c = let a = c.args in (left7 (goal.at.put_byte-requires c).After-put_word-g).room

pub returns : goal.returns
unfolding header_line
returns c = let a = c.args in todo_last (left7 (goal.at.returns c).After-put_word-g) c.put_byte.ensures
