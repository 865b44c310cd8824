use mathlib.Core.Path.{sym}
use lib.ListN.{length, get_or}
use Rattle.vbk_text.proofs.Writing.{put_as, room_as, pieces_none, pieces_room, pieces_more, pieces_done, pieces_length}
use Rattle.vbk_write.specs.Bytes.{two}
use Rattle.vbk_write.proofs.Joined.{joined_each}
use Rattle.vbk_write.proofs.put_samples.Goals as goal

pub loop-k-init : goal.loop-k-init
loop-k-init c =
    let a = c.args in
    pieces_none a.out.now a.at (length a.samples.now) (λ i. two (get_or a.samples.now i 0))
    (room_as a.out.now a.at (joined_each two 0 a.samples.now) c.requires)

pub put_u16-place-requires : goal.put_u16-place-requires
put_u16-place-requires c = pieces_room c.loop-k.invariant c.loop-k-test.true

pub loop-k-preserved : goal.loop-k-preserved
loop-k-preserved c =
    pieces_more c.loop-k.invariant c.loop-k-test.true c.put_u16-place.ensures

pub shape_of-out : goal.shape_of-out
shape_of-out c = pieces_length c.loop-k.invariant

pub returns : goal.returns
returns c = put_as (sym (joined_each two 0 c.args.samples.now)) (pieces_done c.loop-k.invariant c.loop-k-test.false)
