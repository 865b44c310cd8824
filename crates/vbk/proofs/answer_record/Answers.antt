use mathlib.Core.Path.{◌≡◌, refl, sym, ap, ◌∙◌}
use Prim.Native.Nat.{ℕ}
use Rattle.vbk_read.specs.declared.Fields.{Fields}
use Rattle.vbk_read.specs.Records.{record_number}
use Rattle.vbk.specs.Replay.{Rebuilt, touched_by, record_at}
use Rattle.vbk.proofs.Records.{refused_answer, refused_samples, whole_record, rebuilt_is, head_size, touched_head, none_touched, not_whole}
use Rattle.vbk.proofs.answer_record.Goals as goal

pub rebuild-requires : goal.rebuild-requires
rebuild-requires g c =
    let a = c.args in
    let d = rw c.in-Whole.is at c.requires.1 in
    let w = whole_record a.file.now a.at d refl refl in
    (w.0, w.1, w.2, c.requires.0)

pub touched_by-touched-requires : goal.touched_by-touched-requires
touched_by-touched-requires g c =
    let d = rw c.in-Whole.is at c.requires.1 in
    head_size c.args.file.now c.args.at d

pub returns-in-Whole : goal.returns-in-Whole
returns-in-Whole g c =
    let a = c.args in
    let m = g.B.Reconstruct in
    let l = m.beside a.samples.now a.blocks.now in
    let d = rw c.in-Whole.is at c.requires.1 in
    let b = c.rebuild in
    let w = rebuilt_is a.file.now a.at d refl refl m.rebuilds l in
    let e = c.number8-answer.ensures ∙ b.ensures.answered ∙ sym (ap (λ (x : Rebuilt). x.answer) w) in
    record {
      answered = e;
      touched =
          c.touched_by-touched.ensures
          ∙ ap (λ (x : ℕ). touched_by x (record { width = a.fields.width; height = a.fields.height; stride = a.fields.width }) c.in-Whole.head) e
          ∙ ap (λ (f : Fields). touched_by (record_at m.rebuilds a.file.now a.at l).answer (record { width = f.width; height = f.height; stride = f.width }) c.in-Whole.head) c.requires.0
          ∙ touched_head a.file.now a.at d m.rebuilds l refl;
      written = b.ensures.written ∙ sym (ap (λ (x : Rebuilt). x.samples) w);
    }

pub returns : goal.returns
returns g c =
    let a = c.args in
    let m = g.B.Reconstruct in
    let l = m.beside a.samples.now a.blocks.now in
    let z : record_number a.«record» ≡ 0 → ⊥ = not_whole a.«record» c.requires.2 c.in_default.not-Whole in
    let e = refused_answer a.file.now a.at c.requires.1 c.requires.2 m.rebuilds l z in
    record {
      answered = c.number8.ensures ∙ c.answer.ensures ∙ e;
      touched = none_touched (record_at m.rebuilds a.file.now a.at l).answer _ _ (λ q. z (e ∙ q));
      written = refused_samples a.file.now a.at c.requires.1 c.requires.2 m.rebuilds l z;
    }
