use mathlib.Core.Path.{ap}
use native.Mathlib.Omega.{arith}
use borrow.Author.Rules.{rules}
use lib.ListN.{set}
use Prim.Native.Nat.{ℕ, ◌+◌}
use Rattle.vbk.proofs.Records.{touched_few_at}
use Rattle.vbk.proofs.one_record.Goals as goal

pub overflow_add-result-2 : goal.overflow_add-result-2
overflow_add-result-2 g c =
    let a = c.args in
    let m = g.B.Reconstruct in
    record { fits = omega (arith, c.requires.4, c.answer_record-outcome.ensures.touched, touched_few_at m.rebuilds a.file.now a.at (m.beside a.samples.now a.blocks.now) c.requires.1 c.requires.2) }

pub returns : goal.returns
returns g c =
    let a = c.args in
    let r = c.answer_record-outcome in
    record {
      count_is = search rules;
      touched_is = ap (λ (x : ℕ). a.tally.touched + x) r.ensures.touched;
      answers_are = ap (set a.answers.now a.tally.count) r.ensures.answered;
      samples_are = r.ensures.written;
    }
