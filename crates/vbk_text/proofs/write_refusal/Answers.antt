use Rattle.vbk_text.specs.Text.{text}
use Rattle.vbk_text.proofs.write_refusal.Goals as goal

pub put_number-requires : goal.put_number-requires
unfolding text
put_number-requires c = c.requires

pub returns : goal.returns
unfolding text
returns c = c.put_number.ensures
