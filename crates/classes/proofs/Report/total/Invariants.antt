-- 44 counts fit in 64 bits.
use Rattle.std.proofs.Common.{◌*◌, ◌≤◌}
use Rattle.classes.proofs.Report.total.Given as goal

abbrev pub invariant-loop-count : goal.invariant-loop-count
invariant-loop-count l = l.all ≤ l.count-index * 4294967295
