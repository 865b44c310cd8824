use mathlib.Core.Path.{◌≡◌}
use Prim.Native.Nat.{◌≤◌, ◌-◌, ◌+◌}
use lib.IntN.{pos}
use lib.ListN.{get_or, set}
use Rattle.whole.specs.Inner.{times}
use Rattle.narrow_lines.proofs.move_eight.Given as goal

abbrev pub invariant-loop-c : goal.invariant-loop-c
invariant-loop-c l = (l.c ≤ 8) × (l.to ≡ times l.c (λ c y. set y (l.at + c) (get_or l.from (l.start + c) (pos 0))) l.initial.to)

abbrev pub decreases-loop-c : goal.decreases-loop-c
decreases-loop-c l = 8 - l.c
