use Prim.Native.Nat.{◌+◌}
use lib.ListN.{length}
use lib.Seq.{sets}
use Rattle.whole.specs.Steps.{◌⨾◌}
use Rattle.vbk_text.proofs.Writing.{Todo, todo_all, todo_room, todo_next, todo_last}
use Rattle.vbk_write.specs.Bytes.{one, two}
use Rattle.vbk_write.specs.Clip.{head_bytes}
use Rattle.vbk_write.proofs.put_head.Goals as goal
use Rattle.vbk_write.proofs.put_head.Goals.{After-put_u16-a, After-put_u16-b, After-put_u16-f, After-put_u8-c, After-put_u8-d, After-put_u8-e}

-- what is left after call 1
left1 : (c : After-put_u16-a) → let a = c.args in Todo c.put_u16-a.new.out c.put_u16-a.result (two a.y ⨾ one a.size ⨾ one a.tx_type ⨾ one a.lossless ⨾ two a.dc ⨾ two a.ac) (sets a.out.now a.at (head_bytes a.x a.y a.size a.tx_type a.lossless a.dc a.ac)) (a.at + length (head_bytes a.x a.y a.size a.tx_type a.lossless a.dc a.ac))
unfolding head_bytes
left1 c = let a = c.args in todo_next (two a.x) (two a.y ⨾ one a.size ⨾ one a.tx_type ⨾ one a.lossless ⨾ two a.dc ⨾ two a.ac) (todo_all a.out.now a.at (head_bytes a.x a.y a.size a.tx_type a.lossless a.dc a.ac) c.requires) c.put_u16-a.ensures

-- what is left after call 2
left2 : (c : After-put_u16-b) → let a = c.args in Todo c.put_u16-b.new.out c.put_u16-b.result (one a.size ⨾ one a.tx_type ⨾ one a.lossless ⨾ two a.dc ⨾ two a.ac) (sets a.out.now a.at (head_bytes a.x a.y a.size a.tx_type a.lossless a.dc a.ac)) (a.at + length (head_bytes a.x a.y a.size a.tx_type a.lossless a.dc a.ac))
unfolding head_bytes
left2 c = let a = c.args in todo_next (two a.y) (one a.size ⨾ one a.tx_type ⨾ one a.lossless ⨾ two a.dc ⨾ two a.ac) (left1 c.before.before.before.before) c.put_u16-b.ensures

-- what is left after call 3
left3 : (c : After-put_u8-c) → let a = c.args in Todo c.put_u8-c.new.out c.put_u8-c.result (one a.tx_type ⨾ one a.lossless ⨾ two a.dc ⨾ two a.ac) (sets a.out.now a.at (head_bytes a.x a.y a.size a.tx_type a.lossless a.dc a.ac)) (a.at + length (head_bytes a.x a.y a.size a.tx_type a.lossless a.dc a.ac))
unfolding head_bytes
left3 c = let a = c.args in todo_next (one a.size) (one a.tx_type ⨾ one a.lossless ⨾ two a.dc ⨾ two a.ac) (left2 c.before.before.before.before) c.put_u8-c.ensures

-- what is left after call 4
left4 : (c : After-put_u8-d) → let a = c.args in Todo c.put_u8-d.new.out c.put_u8-d.result (one a.lossless ⨾ two a.dc ⨾ two a.ac) (sets a.out.now a.at (head_bytes a.x a.y a.size a.tx_type a.lossless a.dc a.ac)) (a.at + length (head_bytes a.x a.y a.size a.tx_type a.lossless a.dc a.ac))
unfolding head_bytes
left4 c = let a = c.args in todo_next (one a.tx_type) (one a.lossless ⨾ two a.dc ⨾ two a.ac) (left3 c.before.before.before.before) c.put_u8-d.ensures

-- what is left after call 5
left5 : (c : After-put_u8-e) → let a = c.args in Todo c.put_u8-e.new.out c.put_u8-e.result (two a.dc ⨾ two a.ac) (sets a.out.now a.at (head_bytes a.x a.y a.size a.tx_type a.lossless a.dc a.ac)) (a.at + length (head_bytes a.x a.y a.size a.tx_type a.lossless a.dc a.ac))
unfolding head_bytes
left5 c = let a = c.args in todo_next (one a.lossless) (two a.dc ⨾ two a.ac) (left4 c.before.before.before.before) c.put_u8-e.ensures

-- what is left after call 6
left6 : (c : After-put_u16-f) → let a = c.args in Todo c.put_u16-f.new.out c.put_u16-f.result (two a.ac) (sets a.out.now a.at (head_bytes a.x a.y a.size a.tx_type a.lossless a.dc a.ac)) (a.at + length (head_bytes a.x a.y a.size a.tx_type a.lossless a.dc a.ac))
unfolding head_bytes
left6 c = let a = c.args in todo_next (two a.dc) (two a.ac) (left5 c.before.before.before.before) c.put_u16-f.ensures

pub put_u16-a-requires : goal.put_u16-a-requires
unfolding head_bytes
put_u16-a-requires c = let a = c.args in todo_room (two a.x) (two a.y ⨾ one a.size ⨾ one a.tx_type ⨾ one a.lossless ⨾ two a.dc ⨾ two a.ac) (todo_all a.out.now a.at (head_bytes a.x a.y a.size a.tx_type a.lossless a.dc a.ac) c.requires)

pub put_u16-b-requires : goal.put_u16-b-requires
unfolding head_bytes
put_u16-b-requires c = let a = c.args in todo_room (two a.y) (one a.size ⨾ one a.tx_type ⨾ one a.lossless ⨾ two a.dc ⨾ two a.ac) (left1 (goal.at.put_u16-b-requires c).After-put_u16-a)

pub put_u8-c-requires : goal.put_u8-c-requires
unfolding head_bytes
put_u8-c-requires c = let a = c.args in todo_room (one a.size) (one a.tx_type ⨾ one a.lossless ⨾ two a.dc ⨾ two a.ac) (left2 (goal.at.put_u8-c-requires c).After-put_u16-b)

pub put_u8-d-requires : goal.put_u8-d-requires
unfolding head_bytes
put_u8-d-requires c = let a = c.args in todo_room (one a.tx_type) (one a.lossless ⨾ two a.dc ⨾ two a.ac) (left3 (goal.at.put_u8-d-requires c).After-put_u8-c)

pub put_u8-e-requires : goal.put_u8-e-requires
unfolding head_bytes
put_u8-e-requires c = let a = c.args in todo_room (one a.lossless) (two a.dc ⨾ two a.ac) (left4 (goal.at.put_u8-e-requires c).After-put_u8-d)

pub put_u16-f-requires : goal.put_u16-f-requires
unfolding head_bytes
put_u16-f-requires c = let a = c.args in todo_room (two a.dc) (two a.ac) (left5 (goal.at.put_u16-f-requires c).After-put_u8-e)

pub put_u16-requires : goal.put_u16-requires
unfolding head_bytes
put_u16-requires c = let a = c.args in (left6 (goal.at.put_u16-requires c).After-put_u16-f).room

pub returns : goal.returns
unfolding head_bytes
returns c = let a = c.args in todo_last (left6 (goal.at.returns c).After-put_u16-f) c.put_u16.ensures
