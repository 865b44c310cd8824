use mathlib.Core.List.{[], ◌∷◌}
use Prim.Native.Nat.{◌+◌}
use lib.ListN.{length}
use lib.Seq.{sets}
use Rattle.vbk_text.specs.Text.{word}
use Rattle.vbk_text.specs.Decimal.{decimal}
use Rattle.vbk_text.proofs.Writing.{Todo, todo_all, todo_room, todo_next, todo_last}
use Rattle.vbk_text.proofs.put_word.Goals as goal
use Rattle.vbk_text.proofs.put_word.Goals.{After-put_byte-next}

-- what is left after call 1
left1 : (c : After-put_byte-next) → let a = c.args in Todo c.put_byte-next.new.out c.put_byte-next.result (decimal a.n) (sets a.out.now a.at (word a.n)) (a.at + length (word a.n))
unfolding word
left1 c = let a = c.args in todo_next (32 ∷ []) (decimal a.n) (todo_all a.out.now a.at (word a.n) c.requires) c.put_byte-next.ensures

pub put_byte-next-requires : goal.put_byte-next-requires
unfolding word
put_byte-next-requires c = let a = c.args in todo_room (32 ∷ []) (decimal a.n) (todo_all a.out.now a.at (word a.n) c.requires)

pub put_decimal-requires : goal.put_decimal-requires
unfolding word
put_decimal-requires c = let a = c.args in (left1 (goal.at.put_decimal-requires c).After-put_byte-next).room

pub returns : goal.returns
unfolding word
returns c = let a = c.args in todo_last (left1 (goal.at.returns c).After-put_byte-next) c.put_decimal.ensures
