use mathlib.Core.Path.{refl, sym}
use lib.ListN.{length}
use Rattle.std.specs.Prelude.{Err}
use Rattle.std.proofs.lemmas.Result.{err_from_is_err_and}
use Rattle.answers.proofs.Numbers.{refused_number}
use Rattle.idct.specs.Driver.{Input}
use Rattle.idct.proofs.Answers.{possible}
use Rattle.idct.proofs.Counted.{rowed_refused, rowed}
use Rattle.idct.proofs.inverse_transform_2d_rows.Goals as goal

pub returns-in_err-shape : goal.returns-in_err-shape
returns-in_err-shape c =
    let p = err_from_is_err_and c.from_residual.result c.from_residual.ensures.1 in
    rw (p.1, p.2) (rowed_refused (record { block = c.args.block.now; n = c.args.n; tx_type = c.args.tx_type; lossless = c.args.lossless }) (Err c.in_err-shape.field-0.0) c.in_err-shape.ensures (refused_number c.in_err-shape.field-0.0) refl refl)

pub try_any-requires : goal.try_any-requires
try_any-requires c =
    let u : Input = record { block = c.args.block.now; n = c.args.n; tx_type = c.args.tx_type; lossless = c.args.lossless } in
    possible (length u.block) u.n u.tx_type u.lossless (sym c.in_ok-shape.ensures)

pub returns : goal.returns
returns c = rowed (record { block = c.args.block.now; n = c.args.n; tx_type = c.args.tx_type; lossless = c.args.lossless }) (sym c.in_ok-shape.ensures) c.try_any.ensures
