use Rattle.std.proofs.Common.{◌≡◌, ◌+◌, ◌*◌, ◌≤◌, length}
use Rattle.clip_dump.proofs.put_block.Given as goal

abbrev pub invariant-loop-r : goal.invariant-loop-r
invariant-loop-r l = (l.place ≤ l.at + 24 * (l.r * l.side)) × (length l.out ≡ length l.initial.out)
