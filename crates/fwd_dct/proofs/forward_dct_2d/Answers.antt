use mathlib.Core.Path.{sym, ◌∙◌}
use Rattle.std.proofs.lemmas.Result.{err_from_is_err_and}
use Rattle.answers.proofs.Numbers.{refused_number}
use Rattle.fwd_dct.specs.Forward.{Input}
use Rattle.fwd_dct.proofs.Answers.{refused, sized, room, range, middle_room, middle_range, last_count, last_range, in_steps}
use Rattle.fwd_dct.proofs.forward_dct_2d.Goals as goal

pub returns-in_err-check : goal.returns-in_err-check
returns-in_err-check c =
    let u : Input = record { block = c.args.block.now; n = c.args.n } in
    let p = err_from_is_err_and c.from_residual.result c.from_residual.ensures.1 in
    let e = c.in_err-check.ensures in
    rw (p.1, p.2) (record { answered = e; written = refused u (λ f. refused_number c.in_err-check.field-0.0 (e ∙ f)) })

pub rows-requires : goal.rows-requires
rows-requires c =
    let u : Input = record { block = c.args.block.now; n = c.args.n } in
    let z = sym c.in_ok-check.ensures in
    ((sized u z).0, (sized u z).1, c.table-basis.ensures, room u z, range u z)

pub columns-requires : goal.columns-requires
columns-requires c =
    let u : Input = record { block = c.args.block.now; n = c.args.n } in
    let z = sym c.in_ok-check.ensures in
    rw c.rows.ensures ((sized u z).0, (sized u z).1, c.table-basis.ensures, middle_room u z, middle_range u z)

pub bits-requires : goal.bits-requires
bits-requires c = let u : Input = record { block = c.args.block.now; n = c.args.n } in sized u (sym c.in_ok-check.ensures)

pub round_all-requires : goal.round_all-requires
round_all-requires c =
    let u : Input = record { block = c.args.block.now; n = c.args.n } in
    let z = sym c.in_ok-check.ensures in
    rw (c.columns.ensures, c.rows.ensures, last_count u z) (c.bits.ensures.1, c.bits.ensures.2, last_range u z)

pub returns : goal.returns
returns c =
    let u : Input = record { block = c.args.block.now; n = c.args.n } in
    let z = sym c.in_ok-check.ensures in
    let v = c.columns in
    let w = c.rows in
    record {
      answered = c.in_ok-check.ensures;
      written = in_steps u z w.new.block v.new.block c.round_all.new.block c.bits.result w.ensures v.ensures c.bits.ensures.0 c.round_all.ensures;
    }
