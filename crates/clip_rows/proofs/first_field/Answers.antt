use Rattle.clip_rows.proofs.Texts.{Tail-Tail, Tail-first}
use Rattle.clip_rows.proofs.first_field.Goals as goal

-- src/lib.rt:102:1
pub returns-in-Some-clause-tail : goal.returns-in-Some-clause-tail
returns-in-Some-clause-tail c =
    let word = c.skip_blanks-word.result.now in
    let past = c.in-Some.ensures.cases in
    Tail-Tail c.args.row.now word c.in-Some.rest.now c.skip_blanks-word.ensures (Tail-first word c.in-Some.field-0-0.now c.in-Some.rest.now past.0 past.1)
