use mathlib.Core.Path.{refl}
use lib.Dec.{lit≤}
use Rattle.answers.specs.Bad.{bad_quantizer}
use Rattle.numbers.proofs.show_coefficients.Goals as goal

pub dequant-requires : goal.dequant-requires
unfolding bad_quantizer
dequant-requires g c = (refl, lit≤ tt)

pub dequant-requires-2 : goal.dequant-requires-2
unfolding bad_quantizer
dequant-requires-2 g c = (refl, lit≤ tt)

pub dequant-requires-3 : goal.dequant-requires-3
unfolding bad_quantizer
dequant-requires-3 g c = (refl, lit≤ tt)

pub dequant-requires-4 : goal.dequant-requires-4
unfolding bad_quantizer
dequant-requires-4 g c = (refl, lit≤ tt)
