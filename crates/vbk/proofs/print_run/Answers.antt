use mathlib.Core.Path.{sym, ap}
use Prim.Native.Nat.{◌≤◌}
use native.Mathlib.Nat as N
use lib.ListN.{length}
use lib.Seq.{length-take-le}
use Rattle.vbk_text.specs.Text.{text}
use Rattle.vbk_text.proofs.Writing.{put_as, room_as}
use Rattle.vbk.proofs.Printing.{shown}
use Rattle.vbk.proofs.print_run.Goals as goal
use Rattle.vbk.proofs.print_run.Goals.{After-plane_area-n}

pub slice_bounds-write_run-end : goal.slice_bounds-write_run-end
slice_bounds-write_run-end c = sym (length-take-le _ _ c.requires.0)

-- the plane's samples are there
area_fits : (c : After-plane_area-n) → c.plane_area-n.result ≤ length c.args.samples.now
area_fits c = rw c.plane_area-n.ensures c.requires.1

pub slice_bounds-write_run-end-2 : goal.slice_bounds-write_run-end-2
slice_bounds-write_run-end-2 c = sym (length-take-le _ _ (area_fits (goal.at.slice_bounds-write_run-end-2 c).After-plane_area-n))

pub write_run-requires : goal.write_run-requires
write_run-requires c =
    let a = c.args in
    let n = c.plane_area-n.result in (
      rw (length-take-le n a.samples.now (area_fits (goal.at.write_run-requires c).After-plane_area-n), c.plane_area-n.ensures, c.from-width.ensures, c.from-height.ensures, N.mul_comm a.run.fields.height a.run.fields.width) (N.le_refl _),
      room_as a.out.now 0 (ap text (sym (shown a.run a.samples.now a.answers.now c.from-version.ensures c.from-depth.ensures c.from-width.ensures c.from-height.ensures c.plane_area-n.ensures))) c.requires.2,
    )

pub returns : goal.returns
returns c =
    let a = c.args in
    put_as (ap text (shown a.run a.samples.now a.answers.now c.from-version.ensures c.from-depth.ensures c.from-width.ensures c.from-height.ensures c.plane_area-n.ensures)) c.write_run.ensures
