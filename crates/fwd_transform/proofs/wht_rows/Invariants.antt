use mathlib.Core.Path.{◌≡◌}
use Prim.Native.Nat.{◌*◌, ◌-◌, ◌≤◌}
use lib.ListN.{length}
use Rattle.whole.specs.Inner.{times}
use Rattle.blocks.specs.Inner.{change_line}
use Rattle.wht.specs.Wht.{wht}
use Rattle.fwd_transform.proofs.wht_rows.Given as goal

-- after i rows
abbrev pub invariant-loop-i : goal.invariant-loop-i
invariant-loop-i l = (l.i ≤ 4) × (length l.block ≡ 16) × (l.block ≡ times l.i (λ i. change_line (wht 0) (λ z. z) (i * 4) 1 4) l.initial.block)

abbrev pub decreases-loop-i : goal.decreases-loop-i
decreases-loop-i l = 4 - l.i
