use mathlib.Core.Path.{sym, ◌∙◌}
use Rattle.vbk_text.proofs.Writing.{put_as, room_as}
use Rattle.vbk_write.proofs.Words.{two_is}
use Rattle.vbk_write.proofs.put_u16.Goals as goal

pub put-requires : goal.put-requires
put-requires c = let a = c.args in room_as a.out.now a.at (sym (c.to_le_bytes.ensures ∙ two_is a.x c.ranges.x.fits)) c.requires

pub returns : goal.returns
returns c = put_as (c.to_le_bytes.ensures ∙ two_is c.args.x c.ranges.x.fits) c.put.ensures
