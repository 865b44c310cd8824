use mathlib.Core.Path.{◌≡◌, refl}
use native.Mathlib.Omega.{arith}
use borrow.Author.Rules.{rules}
use lib.ListN.{length-set}
use mir.Facts.{to_z-of_z}
use Rattle.whole.proofs.Lists.{fill_none, fill_more}
use Rattle.dc.proofs.fill_first.Goals as goal

pub loop-i-init : goal.loop-i-init
loop-i-init c = (omega arith, fill_none _ _, refl)

pub loop-i-preserved : goal.loop-i-preserved
loop-i-preserved c =
    (search rules, fill_more _ _ _ c.loop-i.invariant.1 refl, simp length-set c.loop-i.invariant.2)

pub returns : goal.returns
returns c =
    let e : c.loop-i.i ≡ c.args.count = omega arith in
    rw (e, to_z-of_z c.ranges.v) at c.loop-i.invariant.1
