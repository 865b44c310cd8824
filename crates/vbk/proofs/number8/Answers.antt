use native.Mathlib.Omega.{arith}
use Rattle.vbk.proofs.Numbers.{number_most}
use Rattle.vbk.proofs.number8.Goals as goal

pub overflow_cast-result : goal.overflow_cast-result
overflow_cast-result c = record { fits = omega (arith, c.code.ensures, number_most c.args.a) }
