use mathlib.Core.Path.{◌≡◌}
use lib.ListN.{length}
use Rattle.fwd_dct.specs.Inner.{first_lines}
use Rattle.fwd_dct.proofs.each_line.Given as goal

abbrev pub invariant-loop-i : goal.invariant-loop-i
invariant-loop-i l = (length l.block ≡ length l.initial.block) × (l.block ≡ first_lines l.n l.next l.step l.i l.initial.block)
