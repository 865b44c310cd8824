-- `plane16::add_eight` meets its contract.
use mathlib.Core.Path.{◌≡◌, refl, ◌∙◌}
use Prim.Native.Nat.{ℕ, ◌+◌}
use native.Mathlib.Omega.{arith}
use lib.IntN.{ℤ, pos, ◌+ℤ◌}
use lib.ListN.{get_or, length-set, replicate}
use Rattle.whole.proofs.Lists.{fill_below}
use Rattle.plane.specs.Plane.{clip}
use Rattle.plane.proofs.Row.{inside_high, row_out, row_none, row_more}
use Rattle.plane16.proofs.add_eight.Goals as goal

pub loop-j-init : goal.loop-j-init
loop-j-init c =
    let a = c.args in
    (omega arith, refl, row_none a.top (λ i. get_or a.z.now (a.from + i) (pos 0)) a.at a.samples.now)

pub loop-j-preserved : goal.loop-j-preserved
loop-j-preserved c =
    let l = c.loop-j in
    let a = c.args in
    let r : ℕ → ℤ = λ i. get_or a.z.now (a.from + i) (pos 0) in
    let old = l.invariant.2 (a.at + l.j) ∙ row_out a.top r a.at a.samples.now l.j (a.at + l.j) (inside_high a.at l.j (a.at + l.j) (omega arith)) in
    let new : get_or c.sums-o.result l.j 0 ≡ clip a.top (pos (get_or a.samples.now (a.at + l.j) 0) +ℤ r l.j) = rw c.sums-o.ensures (fill_below 0 8 (λ j. clip a.top (pos (get_or a.samples.now (a.at + j) 0) +ℤ r j)) (replicate 8 0) l.j (omega arith) (omega arith)) in (
      omega arith,
      simp length-set l.invariant.1,
      row_more a.top r a.at a.samples.now l.samples l.j _ l.invariant.2 (omega arith) (rw old new),
    )

pub returns : goal.returns
returns c = λ k. let e : 8 ≡ c.loop-j.j = omega arith in rw e (c.loop-j.invariant.2 k)
