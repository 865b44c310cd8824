use Rattle.std.proofs.Common.{length}
use Rattle.clip_parse.proofs.Clip.take_cells.Given as goal

abbrev pub decreases-loop-cell : goal.decreases-loop-cell
decreases-loop-cell l = length l.left.rest.now
