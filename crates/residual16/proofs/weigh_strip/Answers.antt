-- `residual16::weigh_strip` meets its contract.
use Rattle.std.proofs.Common.{◌≡◌, ◌+◌, get_or, pos, arith, w64, SFits}
use mir.ValLaws.{to_z-of_z}
use Rattle.blocks.proofs.Near.{abs_most}
use Rattle.residual16.proofs.Sums.{weighed_none, weighed_one, weighed_join}
use Rattle.residual16.proofs.weigh_strip.Goals as goal

pub loop-k-preserved : goal.loop-k-preserved
loop-k-preserved c =
    let a = c.args in
    let s = a.numbers.now in
    let f : SFits w64 (get_or s (a.start + c.loop-k.k) (pos 0)) = record { sfits = c.magnitude-arg-1.given } in
    let e = rw (to_z-of_z w64 (get_or s (a.start + c.loop-k.k) (pos 0)) f) at c.magnitude-m.ensures in
    let w = weighed_one (a.start + c.loop-k.k) s c.magnitude-m.result e (omega (arith, e, abs_most (get_or s (a.start + c.loop-k.k) (pos 0)) f)) in
    (omega arith, weighed_join a.start c.loop-k.k 1 s c.loop-k.all c.loop-k.sum _ _ c.loop-k.invariant.1 w)

pub returns : goal.returns
returns c = let e : c.args.n ≡ c.loop-k.k = omega arith in rw e c.loop-k.invariant.1

pub loop-k-init : goal.loop-k-init
loop-k-init c = (omega arith, weighed_none _ _)
