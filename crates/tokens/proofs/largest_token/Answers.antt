use mathlib.Core.Path.{sym, ap}
use lib.IntN.{nat_abs}
use Rattle.answers.proofs.Passed.{quantizer}
use Rattle.quant.proofs.Machine.{number, plain_cast}
use Rattle.tokens.proofs.Bound.{bounds}
use Rattle.tokens.proofs.largest_token.Goals as goal

pub nonzero_div-largest_product : goal.nonzero_div-largest_product
nonzero_div-largest_product g c =
    rw (number c.number-q.result (rw (sym c.number-q.ensures) at c.requires)) (quantizer c.number-q.result (rw (sym c.number-q.ensures) at c.requires)).least

pub returns : goal.returns
returns g c =
    let q = c.number-q.result in
    rw (sym c.number-q.ensures, c.min.ensures, c.largest_product.ensures, ap nat_abs (number q (rw (sym c.number-q.ensures) at c.requires))) (bounds c.args.size c.args.most q (rw (sym c.number-q.ensures) at c.requires))

pub overflow_cast-q : goal.overflow_cast-q
overflow_cast-q g c = plain_cast c.number-q.result (rw (sym c.number-q.ensures) at c.requires)
