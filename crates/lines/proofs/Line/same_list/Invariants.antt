-- Each turn compares a run of one element or more.
use Rattle.std.proofs.Common.{length}
use Rattle.lines.proofs.Line.same_list.Given as goal

abbrev pub decreases-loop-left : goal.decreases-loop-left
decreases-loop-left g l = length l.left
