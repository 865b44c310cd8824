use Rattle.std.proofs.Common.{◌≡◌, ◌+◌, ◌*◌, ◌≤◌, length}
use Rattle.clip_dump.proofs.put_plane.Given as goal

abbrev pub invariant-loop-r : goal.invariant-loop-r
invariant-loop-r l = (l.place ≤ l.at + 23 * (l.r * l.width)) × (length l.out ≡ length l.initial.out)
