use Prim.Native.Nat.{◌-◌, ◌*◌, ◌≤◌}
use Rattle.report.specs.Classes.{one, itself}
use Rattle.report.specs.Inner.{Noted}
use Rattle.report.proofs.count.count_tokens.Given as goal

abbrev pub invariant-loop-i : goal.invariant-loop-i
invariant-loop-i l = (l.i ≤ l.i-end) × Noted one l.size 0 (l.i * 8) l.tokens l.initial.counts l.counts × Noted itself l.size 0 (l.i * 8) l.tokens l.initial.sums l.sums

abbrev pub decreases-loop-i : goal.decreases-loop-i
decreases-loop-i l = l.i-end - l.i
