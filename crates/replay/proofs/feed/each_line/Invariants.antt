-- What waits in the buffer stands in it, and each turn counts a line at most.
use Rattle.std.proofs.Common.{◌≡◌, ◌≤◌, length}
use Rattle.replay.proofs.feed.each_line.Given as goal

abbrev pub invariant-loop-turn : goal.invariant-loop-turn
invariant-loop-turn g l = (length l.buf ≡ length l.initial.buf) × (l.from ≤ l.end) × (l.end ≤ length l.buf) × (l.number ≤ l.turn)
