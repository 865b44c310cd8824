use mathlib.Core.Path.{◌≡◌}
use Prim.Native.Nat.{◌-◌, ◌*◌, ◌≤◌}
use lib.ListN.{get_or}
use Rattle.report.specs.Classes.{sum_below}
use Rattle.report.proofs.total_of.Given as goal

abbrev pub invariant-loop-k : goal.invariant-loop-k
invariant-loop-k l = (l.k ≤ 44) × (l.total ≤ l.k * 4294967295) × (l.total ≡ sum_below (λ j. get_or l.counts j 0) l.k)

abbrev pub decreases-loop-k : goal.decreases-loop-k
decreases-loop-k l = 44 - l.k
