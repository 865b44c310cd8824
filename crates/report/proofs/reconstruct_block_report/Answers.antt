use mathlib.Core.Path.{◌≡◌, sym, ap, ◌∙◌}
use mathlib.Core.Bool.{false, ◌||◌}
use lib.ListN.{length}
use Rattle.std.proofs.lemmas.Result.{err_from_is_err_and}
use Rattle.answers.proofs.Numbers.{refused_number}
use Rattle.reconstruct.specs.Reconstruct as R
use Rattle.report.specs.Classes.{one, itself}
use Rattle.report.specs.Report.{Input, answer_of, bad_total, bad_sums}
use Rattle.report.specs.Inner.{or_fifteen}
use Rattle.report.proofs.Table.{note_all, good, passes, fails, samples_stay, list_stays, same_samples, list_done, not_zero, corner_answer}
use Rattle.report.proofs.Above.{room}
use Rattle.report.proofs.reconstruct_block_report.Goals as goal
use Rattle.report.proofs.reconstruct_block_report.Goals.{Else-bad_report, Start}

-- the call's input
abbrev block : Start → R.Input
block s =
    record {
      samples = s.args.samples.now;
      plane = s.args.plane;
      x = s.args.x;
      y = s.args.y;
      size = s.args.tx_sz;
      tokens = s.args.tokens.now;
      dc = s.args.dc_quant;
      ac = s.args.ac_quant;
      tx_type = s.args.tx_type;
      lossless = s.args.lossless;
      depth = s.args.bit_depth;
    }

abbrev input : Start → Input
input s = record { block = block s; counts = s.args.counts.now; sums = s.args.sums.now }

-- the report is refused
pub returns-then-bad_report : goal.returns-then-bad_report
returns-then-bad_report c =
    let u = input (goal.at.returns-then-bad_report c).Start in
    let r = c.refused.ensures in
    let e = fails u (sym c.bad_report.ensures ∙ c.if-bad_report.true) in
    let ne : answer_of u ≡ 0 → ⊥ = λ z. not_zero (R.answer_of (block (goal.at.returns-then-bad_report c).Start)) (e ∙ z) in
    record {
      answered = r.0 ∙ ap or_fifteen (corner_answer (block (goal.at.returns-then-bad_report c).Start)) ∙ e;
      written = r.1 ∙ samples_stay u ne;
      counted = list_stays u one u.counts ne;
      summed = list_stays u itself u.sums ne;
    }

-- the report passes
passed : (c : Else-bad_report) → bad_total (length c.args.tokens.now) c.args.counts.now || bad_sums c.args.counts.now c.args.sums.now ≡ false
passed c = sym c.bad_report.ensures ∙ c.if-bad_report.false

-- reconstruction refuses
pub returns-in_err-answer : goal.returns-in_err-answer
returns-in_err-answer c =
    let u = input (goal.at.returns-in_err-answer c).Start in
    let p = err_from_is_err_and c.from_residual.result c.from_residual.ensures.1 in
    let r = c.in_err-answer.ensures in
    let e = passes u (passed (goal.at.returns-in_err-answer c).Else-bad_report) in
    let ne : answer_of u ≡ 0 → ⊥ = λ z. refused_number c.in_err-answer.field-0.0 (r.answered ∙ e ∙ z) in
    rw (p.1, p.2) (record {
      answered = r.answered ∙ e;
      written = r.written ∙ same_samples u e;
      counted = list_stays u one u.counts ne;
      summed = list_stays u itself u.sums ne;
    })

pub count_tokens-requires : goal.count_tokens-requires
count_tokens-requires c =
    let a = c.args in
    let g = good (block (goal.at.count_tokens-requires c).Start) (sym c.in_ok-answer.ensures.answered) in
    (g.size_ok, g.length_ok, g.taken, room (length a.tokens.now) a.counts.now a.sums.now (passed (goal.at.count_tokens-requires c).Else-bad_report))

pub returns : goal.returns
returns c =
    let a = c.args in
    let u = input (goal.at.returns c).Start in
    let r = c.in_ok-answer.ensures in
    let e = passes u (passed (goal.at.returns c).Else-bad_report) in
    let z = sym e ∙ sym r.answered in
    record {
      answered = r.answered ∙ e;
      written = r.written ∙ same_samples u e;
      counted = note_all one a.tx_sz a.tokens.now (length a.tokens.now) u.counts _ c.count_tokens.ensures.0 ∙ list_done u one u.counts z;
      summed = note_all itself a.tx_sz a.tokens.now (length a.tokens.now) u.sums _ c.count_tokens.ensures.1 ∙ list_done u itself u.sums z;
    }
