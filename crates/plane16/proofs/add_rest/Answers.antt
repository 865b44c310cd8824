-- `plane16::add_rest` meets its contract.
use mathlib.Core.Path.{◌≡◌, refl}
use Prim.Native.Nat.{◌+◌}
use native.Mathlib.Omega.{arith}
use lib.Dec.{lit<, lit≤}
use lib.IntN.{pos}
use lib.ListN.{get_or, length-set}
use mir.Syntax.{w16, w64}
use mir.Val.{SFits}
use mir.ValLaws.{to_z-of_z}
use Rattle.whole.proofs.Within.{back, within_le, within_sfits}
use Rattle.plane.proofs.Row.{row_none, row_more}
use Rattle.plane16.proofs.Ends.{short_within}
use Rattle.plane16.proofs.add_rest.Goals as goal
use Rattle.plane16.proofs.add_rest.Goals.{After-r-1}

pub loop-j-init : goal.loop-j-init
loop-j-init c =
    let a = c.args in
    (omega arith, refl, row_none a.top (λ i. get_or a.z.now (a.from + i) (pos 0)) a.at a.samples.now)

-- the residual as it is read
read : (c : After-r-1) → let a = c.args in SFits w16 (get_or a.z.now (a.from + c.loop-j.j) (pos 0))
read c = record { sfits = c.r-1.given }

pub overflow_cast-r : goal.overflow_cast-r
overflow_cast-r c =
    let f = read c.before.before in
    rw (to_z-of_z w16 _ f) (within_sfits {m = 32768} (lit< tt) (short_within _ f))

pub clip-requires : goal.clip-requires
clip-requires c =
    let f = read c.before.before in
    rw (to_z-of_z w16 _ f, back w64 (lit< tt) (short_within _ f)) (within_le (lit≤ tt) (short_within _ f))

pub loop-j-preserved : goal.loop-j-preserved
loop-j-preserved c =
    let l = c.loop-j in
    let a = c.args in
    let f = read c.before.before in (
      omega arith,
      simp length-set l.invariant.1,
      row_more a.top (λ i. get_or a.z.now (a.from + i) (pos 0)) a.at a.samples.now l.samples l.j c.clip.result l.invariant.2 (omega arith)
          (rw (to_z-of_z w16 _ f, back w64 (lit< tt) (short_within _ f)) at c.clip.ensures),
    )

pub returns : goal.returns
returns c =
    λ k. let e : c.args.cols ≡ c.loop-j.j = omega arith in
    rw e (c.loop-j.invariant.2 k)

pub bounds-z-from : goal.bounds-z-from
bounds-z-from c = c.requires.2 c.loop-j.j (omega arith)
