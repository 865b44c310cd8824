use Prim.Native.Nat.{◌+◌}
use lib.ListN.{length}
use lib.Seq.{sets}
use Rattle.whole.specs.Steps.{◌⨾◌}
use Rattle.vbk_text.proofs.Writing.{Todo, todo_all, todo_room, todo_next, todo_last}
use Rattle.vbk_write.specs.Bytes.{one, two}
use Rattle.vbk_write.specs.Clip.{header_bytes}
use Rattle.vbk_write.proofs.put_header.Goals as goal
use Rattle.vbk_write.proofs.put_header.Goals.{After-put_u16-d, After-put_u16-f, After-put_u8-a, After-put_u8-b, After-put_u8-c, After-put_u8-e}

-- what is left after call 1
left1 : (c : After-put_u8-a) → let a = c.args in Todo c.put_u8-a.new.out c.put_u8-a.result (one 66 ⨾ one 75 ⨾ two 1 ⨾ one a.depth ⨾ two a.width ⨾ two a.height) (sets a.out.now 0 (header_bytes a.depth a.width a.height)) (0 + length (header_bytes a.depth a.width a.height))
unfolding header_bytes
left1 c = let a = c.args in todo_next (one 86) (one 66 ⨾ one 75 ⨾ two 1 ⨾ one a.depth ⨾ two a.width ⨾ two a.height) (todo_all a.out.now 0 (header_bytes a.depth a.width a.height) c.requires) c.put_u8-a.ensures

-- what is left after call 2
left2 : (c : After-put_u8-b) → let a = c.args in Todo c.put_u8-b.new.out c.put_u8-b.result (one 75 ⨾ two 1 ⨾ one a.depth ⨾ two a.width ⨾ two a.height) (sets a.out.now 0 (header_bytes a.depth a.width a.height)) (0 + length (header_bytes a.depth a.width a.height))
unfolding header_bytes
left2 c = let a = c.args in todo_next (one 66) (one 75 ⨾ two 1 ⨾ one a.depth ⨾ two a.width ⨾ two a.height) (left1 c.before.before.before.before) c.put_u8-b.ensures

-- what is left after call 3
left3 : (c : After-put_u8-c) → let a = c.args in Todo c.put_u8-c.new.out c.put_u8-c.result (two 1 ⨾ one a.depth ⨾ two a.width ⨾ two a.height) (sets a.out.now 0 (header_bytes a.depth a.width a.height)) (0 + length (header_bytes a.depth a.width a.height))
unfolding header_bytes
left3 c = let a = c.args in todo_next (one 75) (two 1 ⨾ one a.depth ⨾ two a.width ⨾ two a.height) (left2 c.before.before.before.before) c.put_u8-c.ensures

-- what is left after call 4
left4 : (c : After-put_u16-d) → let a = c.args in Todo c.put_u16-d.new.out c.put_u16-d.result (one a.depth ⨾ two a.width ⨾ two a.height) (sets a.out.now 0 (header_bytes a.depth a.width a.height)) (0 + length (header_bytes a.depth a.width a.height))
unfolding header_bytes
left4 c = let a = c.args in todo_next (two 1) (one a.depth ⨾ two a.width ⨾ two a.height) (left3 c.before.before.before.before) c.put_u16-d.ensures

-- what is left after call 5
left5 : (c : After-put_u8-e) → let a = c.args in Todo c.put_u8-e.new.out c.put_u8-e.result (two a.width ⨾ two a.height) (sets a.out.now 0 (header_bytes a.depth a.width a.height)) (0 + length (header_bytes a.depth a.width a.height))
unfolding header_bytes
left5 c = let a = c.args in todo_next (one a.depth) (two a.width ⨾ two a.height) (left4 c.before.before.before.before) c.put_u8-e.ensures

-- what is left after call 6
left6 : (c : After-put_u16-f) → let a = c.args in Todo c.put_u16-f.new.out c.put_u16-f.result (two a.height) (sets a.out.now 0 (header_bytes a.depth a.width a.height)) (0 + length (header_bytes a.depth a.width a.height))
unfolding header_bytes
left6 c = let a = c.args in todo_next (two a.width) (two a.height) (left5 c.before.before.before.before) c.put_u16-f.ensures

pub put_u8-a-requires : goal.put_u8-a-requires
unfolding header_bytes
put_u8-a-requires c = let a = c.args in todo_room (one 86) (one 66 ⨾ one 75 ⨾ two 1 ⨾ one a.depth ⨾ two a.width ⨾ two a.height) (todo_all a.out.now 0 (header_bytes a.depth a.width a.height) c.requires)

pub put_u8-b-requires : goal.put_u8-b-requires
unfolding header_bytes
put_u8-b-requires c = let a = c.args in todo_room (one 66) (one 75 ⨾ two 1 ⨾ one a.depth ⨾ two a.width ⨾ two a.height) (left1 (goal.at.put_u8-b-requires c).After-put_u8-a)

pub put_u8-c-requires : goal.put_u8-c-requires
unfolding header_bytes
put_u8-c-requires c = let a = c.args in todo_room (one 75) (two 1 ⨾ one a.depth ⨾ two a.width ⨾ two a.height) (left2 (goal.at.put_u8-c-requires c).After-put_u8-b)

pub put_u16-d-requires : goal.put_u16-d-requires
unfolding header_bytes
put_u16-d-requires c = let a = c.args in todo_room (two 1) (one a.depth ⨾ two a.width ⨾ two a.height) (left3 (goal.at.put_u16-d-requires c).After-put_u8-c)

pub put_u8-e-requires : goal.put_u8-e-requires
unfolding header_bytes
put_u8-e-requires c = let a = c.args in todo_room (one a.depth) (two a.width ⨾ two a.height) (left4 (goal.at.put_u8-e-requires c).After-put_u16-d)

pub put_u16-f-requires : goal.put_u16-f-requires
unfolding header_bytes
put_u16-f-requires c = let a = c.args in todo_room (two a.width) (two a.height) (left5 (goal.at.put_u16-f-requires c).After-put_u8-e)

pub put_u16-requires : goal.put_u16-requires
unfolding header_bytes
put_u16-requires c = let a = c.args in (left6 (goal.at.put_u16-requires c).After-put_u16-f).room

pub returns : goal.returns
unfolding header_bytes
returns c = let a = c.args in todo_last (left6 (goal.at.returns c).After-put_u16-f) c.put_u16.ensures
