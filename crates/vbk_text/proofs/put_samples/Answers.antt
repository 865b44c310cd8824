use mathlib.Core.Path.{sym, ap}
use Prim.Native.Nat.{◌+◌}
use lib.ListN.{get_or}
use Rattle.vbk_text.specs.Text.{word, samples_from}
use Rattle.vbk_text.proofs.Writing.{put_as, room_as, pieces_none, pieces_room, pieces_more, pieces_done, pieces_length}
use Rattle.vbk_text.proofs.put_samples.Goals as goal

pub loop-c-init : goal.loop-c-init
unfolding samples_from
loop-c-init c =
    let a = c.args in
    pieces_none a.out.now a.at a.count (λ k. word (get_or a.samples.now (a.from + k) 0)) c.requires.1

pub put_word-place-requires : goal.put_word-place-requires
put_word-place-requires c =
    room_as c.loop-c.out c.loop-c.place (ap word (sym c.from.ensures)) (pieces_room c.loop-c.invariant c.loop-c-test.true)

pub loop-c-preserved : goal.loop-c-preserved
loop-c-preserved c =
    pieces_more c.loop-c.invariant c.loop-c-test.true (put_as (ap word c.from.ensures) c.put_word-place.ensures)

pub shape_of-out : goal.shape_of-out
shape_of-out c = pieces_length c.loop-c.invariant

pub returns : goal.returns
unfolding samples_from
returns c = pieces_done c.loop-c.invariant c.loop-c-test.false
