use Prim.Native.Nat.{◌+◌, ◌-◌, ◌≤◌}
use Rattle.report.specs.Classes.{one, itself}
use Rattle.report.specs.Inner.{Noted}
use Rattle.report.proofs.count.count_eight.Given as goal

abbrev pub invariant-loop-i : goal.invariant-loop-i
invariant-loop-i l =
    (l.i ≤ 8) × Noted one l.size l.start (l.start + l.i) l.tokens l.initial.counts l.counts × Noted itself l.size l.start (l.start + l.i) l.tokens l.initial.sums l.sums

abbrev pub decreases-loop-i : goal.decreases-loop-i
decreases-loop-i l = 8 - l.i
