use mathlib.Core.Path.{sym, ap, ◌∙◌}
use lib.IntN.{ℤ, pos}
use lib.Signed.{quot_z}
use mir.Syntax.{w64}
use Rattle.whole.proofs.Signed.{rd_ok}
use Rattle.quant.specs.Token.{dq_denom, dequant}
use Rattle.quant.proofs.Machine.{signed_cast, product_fits, product_is}
use Rattle.quant.proofs.dequant.Goals as goal

pub overflow_cast-q : goal.overflow_cast-q
overflow_cast-q g c = signed_cast c.number-q.result (rw (sym c.number-q.ensures) at c.requires.0)

pub overflow_mul-token : goal.overflow_mul-token
overflow_mul-token g c = product_fits c.number-q.result (rw (sym c.number-q.ensures) at c.requires.0) c.args.token c.requires.1

pub returns : goal.returns
unfolding dequant
returns g c =
    rw (sym c.number-q.ensures) (rd_ok w64 {z = c.divided.result} c.divided.type_inv ∙ c.divided.ensures
    ∙ ap (λ (p : ℤ). quot_z p (pos (dq_denom c.args.size))) (product_is c.number-q.result (rw (sym c.number-q.ensures) at c.requires.0) c.args.token c.requires.1))
