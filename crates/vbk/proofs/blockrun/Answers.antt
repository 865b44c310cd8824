use mathlib.Core.Path.{sym, ◌∙◌}
use Rattle.vbk.proofs.Printing.{short_out, short_rooms, refusal_room, refusal_printed, count_fits, area_fits, run_room, run_printed}
use Rattle.vbk.proofs.blockrun.Goals as goal

pub returns-then-out-lt-TEXT_LIMIT : goal.returns-then-out-lt-TEXT_LIMIT
returns-then-out-lt-TEXT_LIMIT c = let a = c.args in short_out a.file.now a.samples.now a.answers.now a.out.now c.if-out-lt-TEXT_LIMIT.true

pub returns-then-not-roomy : goal.returns-then-not-roomy
returns-then-not-roomy c = let a = c.args in short_rooms a.file.now a.samples.now a.answers.now a.out.now (sym c.roomy.ensures ∙ c.if-not-roomy.true)

pub write_refusal-requires : goal.write_refusal-requires
write_refusal-requires c =
    let a = c.args in
    refusal_room a.file.now a.samples.now a.answers.now a.out.now c.if-out-lt-TEXT_LIMIT.false (sym c.roomy.ensures ∙ c.if-not-roomy.false) c.in-Err.ensures (c.from-in-Err.ensures ∙ c.from.ensures)

pub returns-in-Err : goal.returns-in-Err
returns-in-Err c =
    let a = c.args in
    refusal_printed a.file.now a.samples.now a.answers.now a.out.now c.if-out-lt-TEXT_LIMIT.false (sym c.roomy.ensures ∙ c.if-not-roomy.false) c.in-Err.ensures (c.from-in-Err.ensures ∙ c.from.ensures) c.write_refusal.ensures

pub print_run-requires : goal.print_run-requires
print_run-requires c =
    let a = c.args in
    let r = sym c.roomy.ensures ∙ c.if-not-roomy.false in
    let d = c.in-Ok.ensures in (
      count_fits a.file.now a.samples.now a.answers.now a.out.now c.if-out-lt-TEXT_LIMIT.false r d c.replay.auto.samples c.replay.auto.answers,
      area_fits a.file.now a.samples.now a.answers.now a.out.now c.if-out-lt-TEXT_LIMIT.false r d c.replay.auto.samples c.replay.auto.answers,
      run_room a.file.now a.samples.now a.answers.now a.out.now c.if-out-lt-TEXT_LIMIT.false r d c.replay.auto.samples c.replay.auto.answers (λ k. (c.type_inv.file k).fits) (λ k. (c.slice_known-4-1.given k).fits) (λ k. (c.slice_known-5-1.given k).fits),
    )

pub returns-in-Ok : goal.returns-in-Ok
returns-in-Ok c =
    let a = c.args in
    run_printed a.file.now a.samples.now a.answers.now a.out.now c.if-out-lt-TEXT_LIMIT.false (sym c.roomy.ensures ∙ c.if-not-roomy.false) c.in-Ok.ensures c.replay.auto.samples c.replay.auto.answers (λ k. (c.type_inv.file k).fits) (λ k. (c.slice_known-4-1.given k).fits) (λ k. (c.slice_known-5-1.given k).fits) c.print_run.ensures
