use Rattle.std.proofs.Common.{◌-◌, ◌≤◌}
use Rattle.residual16.specs.Inner.{Weighed}
use Rattle.residual16.proofs.weigh_strip.Given as goal

abbrev pub invariant-loop-k : goal.invariant-loop-k
invariant-loop-k l = (l.k ≤ l.n) × Weighed l.start l.k l.numbers l.all l.sum

abbrev pub decreases-loop-k : goal.decreases-loop-k
decreases-loop-k l = l.n - l.k
