use mathlib.Core.Path.{◌≡◌, sym, ap, ◌∙◌}
use mathlib.Core.Bool.{true}
use mathlib.Core.List.{List}
use Prim.Native.Nat.{ℕ, ◌*◌, ◌≤◌}
use native.Mathlib.Omega.{arith}
use lib.ListN.{length}
use lib.Seq.{length-take-le}
use Rattle.std.specs.Prelude.{Ok}
use Rattle.std.proofs.lemmas.Result.{err_from_is_err_and}
use Rattle.vbk_read.specs.Header.{plane_area, header_answer, Headed}
use Rattle.vbk_read.specs.declared.Fields.{Fields}
use Rattle.vbk_read.proofs.Headers.{good}
use Rattle.vbk.specs.Promises.{roomy}
use Rattle.vbk.proofs.Runs.{short, enough, rooms, refusal, whole}
use Rattle.vbk.proofs.replay_with.Goals as goal

pub returns-then-not-roomy : goal.returns-then-not-roomy
returns-then-not-roomy g c =
    let a = c.args in
    refusal g.B.Reconstruct.rebuilds g.B.Reconstruct.beside a.file.now a.samples.now a.answers.now a.blocks.now _ (sym (short a.file.now a.samples.now a.answers.now (sym c.roomy.ensures ∙ c.if-not-roomy.true)))

-- the rooms are long enough: the header's refusal is the run's
pub returns-in_err-fields : goal.returns-in_err-fields
returns-in_err-fields g c =
    let a = c.args in
    let p = err_from_is_err_and c.from_residual.result c.from_residual.ensures.1 in
    rw (p.1, p.2)
    (refusal g.B.Reconstruct.rebuilds g.B.Reconstruct.beside a.file.now a.samples.now a.answers.now a.blocks.now _ (c.in_err-fields.ensures.answered ∙ sym (enough a.file.now a.samples.now a.answers.now (sym c.roomy.ensures ∙ c.if-not-roomy.false))))

-- the header is good, and so is its area
module _ (s : List ℕ) {f : Fields} (d : Headed s (Ok f)) {n : ℕ} (e : n ≡ f.width * f.height) where
  done : header_answer s ≡ 0
  done = sym d.answered

  area_is : n ≡ plane_area s
  area_is = e ∙ ap (λ (f : Fields). f.width * f.height) d.fields_are

  -- the plane's samples have room
  room : (samples answers : List ℕ) → roomy samples answers ≡ true → n ≤ length samples
  room samples answers r = omega (arith, area_is, (good s done).area_fits, (rooms samples answers r).0)

pub slice_bounds-play-end : goal.slice_bounds-play-end
slice_bounds-play-end g c =
    let a = c.args in
    room a.file.now c.in_ok-fields.ensures c.plane_area-n.ensures a.samples.now a.answers.now (sym c.roomy.ensures ∙ c.if-not-roomy.false)

pub slice_bounds-play-end-2 : goal.slice_bounds-play-end-2
slice_bounds-play-end-2 g c =
    let a = c.args in
    sym (length-take-le _ _ (room a.file.now c.in_ok-fields.ensures c.plane_area-n.ensures a.samples.now a.answers.now (sym c.roomy.ensures ∙ c.if-not-roomy.false)))

pub play-tally-requires : goal.play-tally-requires
play-tally-requires g c =
    let a = c.args in
    let d = c.in_ok-fields.ensures in
    let r = sym c.roomy.ensures ∙ c.if-not-roomy.false in
    (done a.file.now d c.plane_area-n.ensures, d.fields_are, length-take-le _ _ (room a.file.now d c.plane_area-n.ensures a.samples.now a.answers.now r) ∙ area_is a.file.now d c.plane_area-n.ensures, (rooms a.samples.now a.answers.now r).1)

pub returns : goal.returns
returns g c =
    let a = c.args in
    let d = c.in_ok-fields.ensures in
    let r = sym c.roomy.ensures ∙ c.if-not-roomy.false in
    whole g.B.Reconstruct.rebuilds g.B.Reconstruct.beside a.file.now a.samples.now a.answers.now a.blocks.now _ _ _ c.plane_area-n.result _ _ _ (area_is a.file.now d c.plane_area-n.ensures)
    (c.play-tally.auto.samples ∙ length-take-le _ _ (room a.file.now d c.plane_area-n.ensures a.samples.now a.answers.now r))
    (enough a.file.now a.samples.now a.answers.now r ∙ done a.file.now d c.plane_area-n.ensures)
    d.fields_are
    c.play-tally.ensures
