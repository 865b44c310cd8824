use mathlib.Core.Path.{sym, ◌∙◌}
use native.Mathlib.Omega.{arith}
use Rattle.std.proofs.lemmas.Result.{err_from_is_err_and}
use Rattle.answers.proofs.Numbers.{refused_number}
use Rattle.blocks.proofs.Blocks.{columns_length}
use Rattle.answers.specs.Limits.{WHT_LIMIT}
use Rattle.wht.specs.Wht.{wht}
use Rattle.fwd_transform.specs.ForwardWht.{forward_wht}
use Rattle.fwd_transform.proofs.Wht.{columns_within, refused, done, sixteen, in_range}
use Rattle.fwd_transform.proofs.forward_wht_2d.Goals as goal

pub returns-in_err-check_wht : goal.returns-in_err-check_wht
returns-in_err-check_wht c =
    let p = err_from_is_err_and c.from_residual.result c.from_residual.ensures.1 in
    let e = c.in_err-check_wht.ensures in
    rw (p.1, p.2) (record { answered = e; written = refused c.args.block.now (λ f. refused_number c.in_err-check_wht.field-0.0 (e ∙ f)) })

pub wht_columns-requires : goal.wht_columns-requires
wht_columns-requires c =
    let b = c.args.block.now in
    (sixteen b (sym c.in_ok-check_wht.ensures), in_range b (sym c.in_ok-check_wht.ensures))

pub wht_rows-requires : goal.wht_rows-requires
wht_rows-requires c =
    let b = c.args.block.now in
    let z = (sym c.in_ok-check_wht.ensures) in
    let n = sixteen b z in
    rw c.wht_columns.ensures (columns_length (wht 0) (λ z. z) 4 b ∙ n, columns_within WHT_LIMIT b (omega arith) (in_range b z))

pub returns : goal.returns
unfolding forward_wht
returns c =
    let b = c.args.block.now in
    let z = (sym c.in_ok-check_wht.ensures) in
    record { answered = c.in_ok-check_wht.ensures; written = c.wht_rows.ensures ∙ rw c.wht_columns.ensures (done b z) }
