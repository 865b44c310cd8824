use mathlib.Core.Path.{sym, refl}
use native.Mathlib.Omega.{arith}
use Rattle.quant.proofs.Machine.{number, plain_cast, weight_most}
use Rattle.quant.proofs.weight.Goals as goal

pub overflow_cast-result : goal.overflow_cast-result
overflow_cast-result g c = plain_cast c.number-q.result (rw (sym c.number-q.ensures) at c.requires.0)

pub overflow_mul-result : goal.overflow_mul-result
overflow_mul-result g c = rw (number c.number-q.result (rw (sym c.number-q.ensures) at c.requires.0)) (record { fits = omega (arith, weight_most c.number-q.result (rw (sym c.number-q.ensures) at c.requires.0) c.args.sum c.requires.1) })

pub returns : goal.returns
returns g c = rw (sym c.number-q.ensures, number c.number-q.result (rw (sym c.number-q.ensures) at c.requires.0)) (refl, weight_most c.number-q.result (rw (sym c.number-q.ensures) at c.requires.0) c.args.sum c.requires.1)
