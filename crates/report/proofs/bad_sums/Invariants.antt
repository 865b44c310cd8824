use mathlib.Core.Path.{◌≡◌}
use Prim.Native.Nat.{◌-◌, ◌*◌, ◌≤◌}
use lib.Dec.{ltb}
use lib.ListN.{get_or}
use Rattle.whole.specs.Tests.{any_below}
use Rattle.answers.specs.Limits.{codeable}
use Rattle.report.proofs.bad_sums.Given as goal

abbrev pub invariant-loop-k : goal.invariant-loop-k
invariant-loop-k l = (l.k ≤ 44) × (l.bad ≡ any_below (λ j. ltb (get_or l.counts j 0 * codeable 12) (get_or l.sums j 0)) l.k)

abbrev pub decreases-loop-k : goal.decreases-loop-k
decreases-loop-k l = 44 - l.k
