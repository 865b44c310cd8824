use Rattle.vbk_read.proofs.Headers.{fields}
use Rattle.vbk_read.proofs.read_fields.Goals as goal

pub returns : goal.returns
returns c =
    fields c.args.s.now _ _ _ _ _ _ _ _
    c.read_u16-version.ensures
    c.read_u8-depth.ensures
    c.read_u16-width.ensures
    c.read_u16-height.ensures
