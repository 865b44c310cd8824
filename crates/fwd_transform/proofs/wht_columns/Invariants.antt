use mathlib.Core.Path.{◌≡◌}
use Prim.Native.Nat.{◌-◌, ◌≤◌}
use lib.ListN.{length}
use Rattle.whole.specs.Inner.{times}
use Rattle.blocks.specs.Inner.{change_line}
use Rattle.wht.specs.Wht.{wht}
use Rattle.fwd_transform.proofs.wht_columns.Given as goal

-- after j columns
abbrev pub invariant-loop-j : goal.invariant-loop-j
invariant-loop-j l = (l.j ≤ 4) × (length l.block ≡ 16) × (l.block ≡ times l.j (λ j. change_line (wht 0) (λ z. z) j 4 4) l.initial.block)

abbrev pub decreases-loop-j : goal.decreases-loop-j
decreases-loop-j l = 4 - l.j
