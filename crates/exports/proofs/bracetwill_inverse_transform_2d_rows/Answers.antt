use mathlib.Core.Path.{refl, sym, ◌∙◌}
use Rattle.answers.proofs.Numbers.{refused_number}
use Rattle.exports.proofs.Rows.{counted, not_counted}
use Rattle.exports.proofs.bracetwill_inverse_transform_2d_rows.Goals as goal

pub returns-in-Ok : goal.returns-in-Ok
returns-in-Ok c = counted _ (rw c.in-Ok.is at c.inverse_transform_2d_rows.ensures) refl c.number.ensures refl

pub returns-in-Err : goal.returns-in-Err
returns-in-Err c = not_counted _ (rw c.in-Err.is at c.inverse_transform_2d_rows.ensures) c.from.ensures (λ z. refused_number c.in-Err.refusal (sym c.from.ensures ∙ z))
