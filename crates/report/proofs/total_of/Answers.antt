use mathlib.Core.Path.{◌≡◌}
use native.Mathlib.Omega.{arith}
use lib.ListN.{get_or}
use Rattle.report.proofs.Above.{sum_none, sum_more, total_is}
use Rattle.report.proofs.total_of.Goals as goal

pub loop-k-preserved : goal.loop-k-preserved
loop-k-preserved c =
    (omega arith, omega (arith, c.from-total.ensures, c.loop-k.invariant.1), rw c.from-total.ensures (sum_more (λ j. get_or c.args.counts.now j 0) c.loop-k.k c.loop-k.invariant.2))

pub returns : goal.returns
returns c =
    let e : c.loop-k.k ≡ 44 = omega arith in
    (total_is c.args.counts.now (rw e at c.loop-k.invariant.2), omega (arith, c.loop-k.invariant.1))

pub loop-k-init : goal.loop-k-init
loop-k-init c = (omega arith, omega arith, sum_none _)
