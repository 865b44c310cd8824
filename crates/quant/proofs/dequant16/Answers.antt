use mathlib.Core.Path.{sym, ◌∙◌}
use mir.Syntax.{w16}
use Rattle.whole.proofs.Signed.{rd_ok}
use Rattle.quant.proofs.Machine.{number, number_16, short_cast}
use Rattle.quant.proofs.Sixteen.{token_64, token_16, token_cast}
use Rattle.quant.proofs.dequant16.Goals as goal

pub overflow_cast-token : goal.overflow_cast-token
overflow_cast-token g c = token_cast c.args.token c.requires.1

pub overflow_cast-q : goal.overflow_cast-q
overflow_cast-q g c = short_cast c.number-q.result (rw (sym c.number-q.ensures) at c.requires.0)

pub coefficient16-requires : goal.coefficient16-requires
coefficient16-requires g c = rw (token_64 c.args.token c.requires.1, token_16 c.args.token c.requires.1, number c.number-q.result (rw (sym c.number-q.ensures) at c.requires.0), number_16 c.number-q.result (rw (sym c.number-q.ensures) at c.requires.0)) (rw (sym c.number-q.ensures) at c.requires.2)

pub returns : goal.returns
returns g c = rw (sym c.number-q.ensures) (rd_ok w16 {z = c.coefficient16.result} c.coefficient16.type_inv
    ∙ rw (token_64 c.args.token c.requires.1, token_16 c.args.token c.requires.1, number c.number-q.result (rw (sym c.number-q.ensures) at c.requires.0), number_16 c.number-q.result (rw (sym c.number-q.ensures) at c.requires.0)) at c.coefficient16.ensures)
