use mathlib.Core.Path.{refl, sym}
use Rattle.std.specs.Prelude.{Err}
use Rattle.std.proofs.lemmas.Result.{err_from_is_err_and}
use Rattle.answers.proofs.Numbers.{refused_number}
use Rattle.idct.specs.Driver.{Input}
use Rattle.idct.proofs.Answers.{large_fine, as_lossy}
use Rattle.idct.proofs.Counted.{rowed_refused, rowed}
use Rattle.idct.proofs.drive.Goals as goal

pub returns-then-n-eq2 : goal.returns-then-n-eq2
returns-then-n-eq2 c = rw c.if-n-eq2.true c.small.ensures

pub returns-in_err-shape : goal.returns-in_err-shape
returns-in_err-shape c =
    let p = err_from_is_err_and c.from_residual.result c.from_residual.ensures.1 in
    rw (p.1, p.2) (rowed_refused (record { block = c.args.block.now; n = c.args.n; tx_type = c.args.tx_type; lossless = c.args.lossless }) (Err c.in_err-shape.field-0.0) c.in_err-shape.ensures (refused_number c.in_err-shape.field-0.0) refl refl)

pub try_larger-requires : goal.try_larger-requires
try_larger-requires c =
    let u : Input = record { block = c.args.block.now; n = c.args.n; tx_type = c.args.tx_type; lossless = c.args.lossless } in
    large_fine u.block u.n u.tx_type u.lossless (sym c.in_ok-shape.ensures) c.if-n-eq2.false

pub returns : goal.returns
returns c =
    let u : Input = record { block = c.args.block.now; n = c.args.n; tx_type = c.args.tx_type; lossless = c.args.lossless } in
    rowed u (sym c.in_ok-shape.ensures) (as_lossy u.block u.n u.tx_type u.lossless (sym c.in_ok-shape.ensures) c.if-n-eq2.false c.try_larger.ensures)
