use mathlib.Core.Path.{◌≡◌, sym, ap, ◌∙◌}
use lib.IntN.{ℤ}
use mir.Val.{of_z}
use Rattle.std.specs.Int.{w32, to_le_bytes}
use Rattle.vbk_read.proofs.Signed.{back32}
use Rattle.vbk_text.proofs.Writing.{put_as, room_as}
use Rattle.vbk_write.specs.Bytes.{four}
use Rattle.vbk_write.proofs.Words.{four_is}
use Rattle.vbk_write.proofs.put_i32.Goals as goal
use Rattle.vbk_write.proofs.put_i32.Goals.{After-to_le_bytes}

bytes_are : (c : After-to_le_bytes) → c.to_le_bytes.result ≡ four c.args.t
bytes_are c =
    let b = back32 c.args.t c.ranges.t.sfits in
    c.to_le_bytes.ensures ∙ ap (λ (z : ℤ). to_le_bytes w32 (of_z w32 z)) b ∙ four_is c.args.t c.ranges.t.sfits

pub put-requires : goal.put-requires
put-requires c = let a = c.args in room_as a.out.now a.at (sym (bytes_are (goal.at.put-requires c).After-to_le_bytes)) c.requires

pub returns : goal.returns
returns c = put_as (bytes_are (goal.at.returns c).After-to_le_bytes) c.put.ensures
