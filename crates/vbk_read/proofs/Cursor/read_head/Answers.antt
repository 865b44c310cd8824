use Rattle.vbk_read.proofs.Records.{head}
use Rattle.vbk_read.proofs.Cursor.read_head.Goals as goal

pub returns : goal.returns
returns c =
    let a = c.args in
    head a.s.now a.self.at _ _ _ _ _ _ _ _ _ _ _ _ _ _
    c.read_u16-x.ensures
    c.read_u16-y.ensures
    c.read_u8-size.ensures
    c.read_u8-tx_type.ensures
    c.read_u8-lossless.ensures
    c.read_u16-dc.ensures
    c.read_u16-ac.ensures
