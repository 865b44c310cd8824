use mathlib.Core.Path.{◌∙◌}
use Rattle.exports.proofs.bracetwill_forward_dct_2d.Goals as goal

pub returns : goal.returns
returns c =
    let e = c.forward_dct_2d-a.ensures in
    record { answered = c.code.ensures ∙ e.answered; written = e.written }
