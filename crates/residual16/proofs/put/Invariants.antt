use Rattle.std.proofs.Common.{◌≡◌, ◌+◌, ◌-◌, ◌≤◌, get_or, set, pos}
use Rattle.whole.specs.Inner.{times}
use Rattle.residual16.proofs.put.Given as goal

abbrev pub invariant-loop-j : goal.invariant-loop-j
invariant-loop-j l = (l.j ≤ 8) × (l.z ≡ times l.j (λ j s. set s (l.at + j) (get_or l.o j (pos 0))) l.initial.z)

abbrev pub decreases-loop-j : goal.decreases-loop-j
decreases-loop-j l = 8 - l.j
