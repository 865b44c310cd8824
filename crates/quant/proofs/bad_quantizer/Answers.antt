use mathlib.Core.Path.{sym}
use mir.Syntax.{w32}
use Rattle.whole.proofs.Signed.{rd_ok}
use Rattle.answers.specs.Bad.{bad_quantizer}
use Rattle.quant.proofs.bad_quantizer.Goals as goal

pub returns-then-q-lt1 : goal.returns-then-q-lt1
unfolding bad_quantizer
returns-then-q-lt1 g c =
    let e = rd_ok w32 {z = c.number-q.result} c.number-q.type_inv in
    rw (sym c.number-q.ensures, rw e at c.if-q-lt1.true)

pub returns : goal.returns
unfolding bad_quantizer
returns g c =
    let e = rd_ok w32 {z = c.number-q.result} c.number-q.type_inv in
    rw (sym c.number-q.ensures, e, rw e at c.if-q-lt1.false)
