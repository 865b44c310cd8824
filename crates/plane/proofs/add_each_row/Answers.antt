-- `plane::add_each_row` meets its contract.
use mathlib.Core.Path.{◌≡◌, refl, ◌∙◌}
use Prim.Native.Nat.{◌+◌, ◌*◌, ◌≤◌}
use native.Mathlib.Nat as NatL
use native.Mathlib.Omega.{arith}
use Rattle.plane.specs.Place.{place_of, cut}
use Rattle.plane.proofs.Block.{block_none, block_more, by_rows}
use Rattle.plane.proofs.add_each_row.Goals as goal

pub loop-i-init : goal.loop-i-init
loop-i-init g c =
    let a = c.args in (
      (omega arith, refl),
      λ row column l. block_none a.top (g.R.Residuals.residual a.residuals) a.x a.y a.samples.now a.cols row column (place_of a.plane row column),
    )

pub place-requires : goal.place-requires
place-requires g c =
    let p = c.requires.samples_of in
    (p.0.long, omega (arith, p.0.high, p.2), omega (arith, p.0.wide, p.0.long, p.1))

pub add_row-requires : goal.add_row-requires
add_row-requires g c =
    let a = c.args in
    let l = c.loop-i in
    let p = c.requires.samples_of in
    let m : (a.y + l.i + 1) * a.plane.stride ≤ a.plane.height * a.plane.stride = NatL.mul-le-mul_right a.plane.stride (omega (arith, p.2)) in (
      omega (arith, c.place.ensures, p.0.all, l.invariant.0.1, p.1, p.3, p.0.wide, NatL.add-mul (a.y + l.i) 1 a.plane.stride, NatL.mul_comm a.plane.stride a.plane.height),
      c.requires.whole l.i a.cols (omega (arith, p.2)) (omega (arith, p.3)),
    )

pub loop-i-preserved : goal.loop-i-preserved
loop-i-preserved g c =
    let a = c.args in
    let l = c.loop-i in
    let p = c.requires.samples_of in (
      (omega arith, c.add_row.auto.samples ∙ l.invariant.0.1),
      block_more a.top (g.R.Residuals.residual a.residuals) a.x a.y a.samples.now a.plane a.cols l.i (omega (arith, p.0.wide, p.1, p.3)) l.samples c.add_row.new.samples l.invariant.1
          (rw c.place.ensures at c.add_row.ensures),
    )

pub returns : goal.returns
returns g c =
    let a = c.args in
    let l = c.loop-i in
    let p = c.requires.samples_of in
    let e : l.i ≡ cut a.plane.height a.y a.n0 = omega (arith, p.2) in
    by_rows a.plane a.samples.now p.0 a.top a.x a.y a.n0 (g.R.Residuals.residual a.residuals) l.samples l.invariant.0.1 (rw (e, p.3) at l.invariant.1)

pub overflow_add-y : goal.overflow_add-y
overflow_add-y g c = let p = c.requires.samples_of in omega (arith, p.0.high, p.2)
