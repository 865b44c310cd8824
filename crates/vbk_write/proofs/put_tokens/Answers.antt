use mathlib.Core.Path.{sym, ap}
use Prim.Native.Nat.{◌+◌}
use lib.IntN.{pos}
use lib.ListN.{get_or}
use Rattle.vbk_read.proofs.Signed.{back32}
use Rattle.vbk_text.proofs.Writing.{put_as, room_as, pieces_none, pieces_room, pieces_more, pieces_done, pieces_length}
use Rattle.vbk_write.specs.Bytes.{four}
use Rattle.vbk_write.specs.Lent.{tokens_from}
use Rattle.vbk_write.proofs.Joined.{joined_tabulate}
use Rattle.vbk_write.proofs.put_tokens.Goals as goal

pub loop-j-init : goal.loop-j-init
unfolding tokens_from
loop-j-init c =
    let a = c.args in
    pieces_none a.out.now a.at a.count (λ i. four (get_or a.tokens.now (a.from + i) (pos 0)))
    (room_as a.out.now a.at (joined_tabulate four (λ i. get_or a.tokens.now (a.from + i) (pos 0)) a.count) c.requires.1)

pub put_i32-place-requires : goal.put_i32-place-requires
put_i32-place-requires c =
    room_as c.loop-j.out c.loop-j.place (ap four (sym (back32 _ c.put_i32-arg-in-loop-j-1.given))) (pieces_room c.loop-j.invariant c.loop-j-test.true)

pub loop-j-preserved : goal.loop-j-preserved
loop-j-preserved c =
    pieces_more c.loop-j.invariant c.loop-j-test.true (put_as (ap four (back32 _ c.put_i32-arg-in-loop-j-1.given)) c.put_i32-place.ensures)

pub shape_of-out : goal.shape_of-out
shape_of-out c = pieces_length c.loop-j.invariant

pub returns : goal.returns
unfolding tokens_from
returns c =
    let a = c.args in
    put_as (sym (joined_tabulate four (λ i. get_or a.tokens.now (a.from + i) (pos 0)) a.count)) (pieces_done c.loop-j.invariant c.loop-j-test.false)
