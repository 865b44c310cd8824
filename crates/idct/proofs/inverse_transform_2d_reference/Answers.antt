use mathlib.Core.Path.{◌≡◌, sym, ap, ◌∙◌}
use mathlib.Core.Bool.{false}
use mathlib.Core.List.{List}
use Prim.Native.Nat.{◌^◌}
use native.Mathlib.Nat.{mul-le-mul}
use native.Mathlib.Omega.{arith}
use lib.IntN.{ℤ}
use lib.ListN.{length}
use Rattle.std.specs.Prelude.{Ok, Err}
use Rattle.std.proofs.lemmas.Result.{err_from_is_err_and}
use Rattle.answers.proofs.Numbers.{refused_number}
use Rattle.answers.specs.declared.Refusal.TheVariants.{Coefficient}
use Rattle.answers.specs.Bad.{any_beyond}
use Rattle.answers.specs.Limits.{COEF_LIMIT}
use Rattle.blocks.specs.Block.{columns, rows_then_columns}
use Rattle.blocks.specs.Inverse.{apply, row_pass, column_pass, rounding, inverse2d}
use Rattle.blocks.proofs.Passes.{row_valid}
use Rattle.blocks.proofs.Blocks.{rows_length}
use Rattle.blocks.proofs.Inverse.{rows_within}
use Rattle.answers.specs.Sizes.{area}
use Rattle.idct.specs.Driver.{Input}
use Rattle.idct.proofs.Answers.{possible, refused, driven, over, under, in_range}
use Rattle.idct.proofs.inverse_transform_2d_reference.Goals as goal
use Rattle.idct.proofs.inverse_transform_2d_reference.Goals.{After-any_beyond, Else-any_beyond}

-- the scan, over the block
scan : (c : After-any_beyond) → c.any_beyond.result ≡ any_beyond COEF_LIMIT (area c.args.n) c.args.block.now
scan c = rw c.side-n0.ensures.0 at c.any_beyond.ensures

within : (c : Else-any_beyond) → any_beyond COEF_LIMIT (area c.args.n) c.args.block.now ≡ false
within c = sym (scan c.before) ∙ c.if-any_beyond.false

pub returns-in_err-shape : goal.returns-in_err-shape
returns-in_err-shape c =
    let p = err_from_is_err_and c.from_residual.result c.from_residual.ensures.1 in
    rw (p.1, p.2) (refused (record { block = c.args.block.now; n = c.args.n; tx_type = c.args.tx_type; lossless = c.args.lossless }) (Err c.in_err-shape.field-0.0) c.in_err-shape.ensures (refused_number c.in_err-shape.field-0.0))

pub side-n0-requires : goal.side-n0-requires
side-n0-requires c = ((possible (length c.args.block.now) c.args.n c.args.tx_type c.args.lossless (sym c.in_ok-shape.ensures)).0.least, (possible (length c.args.block.now) c.args.n c.args.tx_type c.args.lossless (sym c.in_ok-shape.ensures)).0.most)

pub overflow_mul-n0 : goal.overflow_mul-n0
overflow_mul-n0 c = omega (arith, mul-le-mul c.side-n0.ensures.1 c.side-n0.ensures.1)

pub any_beyond-requires : goal.any_beyond-requires
any_beyond-requires c = rw c.side-n0.ensures.0 (possible (length c.args.block.now) c.args.n c.args.tx_type c.args.lossless (sym c.in_ok-shape.ensures)).1

pub returns-then-any_beyond : goal.returns-then-any_beyond
returns-then-any_beyond c =
    let u : Input = record { block = c.args.block.now; n = c.args.n; tx_type = c.args.tx_type; lossless = c.args.lossless } in
    driven u (Err Coefficient) u.block (sym c.in_ok-shape.ensures) (over u (sym (scan c.before) ∙ c.if-any_beyond.true))

pub rows-requires : goal.rows-requires
rows-requires c =
    let u : Input = record { block = c.args.block.now; n = c.args.n; tx_type = c.args.tx_type; lossless = c.args.lossless } in
    ((possible (length c.args.block.now) c.args.n c.args.tx_type c.args.lossless (sym c.in_ok-shape.ensures)).0, (possible (length c.args.block.now) c.args.n c.args.tx_type c.args.lossless (sym c.in_ok-shape.ensures)).1, in_range (area u.n) u.block (within c.before))

pub columns-requires : goal.columns-requires
columns-requires c =
    let u : Input = record { block = c.args.block.now; n = c.args.n; tx_type = c.args.tx_type; lossless = c.args.lossless } in
    let q = (possible (length c.args.block.now) c.args.n c.args.tx_type c.args.lossless (sym c.in_ok-shape.ensures)).0 in
    let room = (possible (length c.args.block.now) c.args.n c.args.tx_type c.args.lossless (sym c.in_ok-shape.ensures)).1 in
    rw c.rows.ensures (
      q,
      rw (rows_length (apply (row_pass u.tx_type u.lossless) u.n) (2 ^ u.n) u.block) room,
      rows_within u.n q.least q.most (row_pass u.tx_type u.lossless) u.block room (row_valid u.n u.tx_type u.lossless q) (in_range (area u.n) u.block (within c.before.before.before.before)),
    )

pub returns : goal.returns
unfolding inverse2d rows_then_columns
returns c =
    let u : Input = record { block = c.args.block.now; n = c.args.n; tx_type = c.args.tx_type; lossless = c.args.lossless } in
    let all : List ℤ → List ℤ = columns (apply (column_pass u.tx_type u.lossless) u.n) (rounding u.n u.lossless) (2 ^ u.n) in
    driven u (Ok tt) _ (sym c.in_ok-shape.ensures) (under u _ (within c.before.before.before.before.before.before) (c.columns.ensures ∙ ap all c.rows.ensures))
