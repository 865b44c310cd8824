use mathlib.Core.Path.{◌≡◌}
use Prim.Native.Nat.{◌+◌, ◌*◌, ◌^◌}
use lib.IntN.{pos, ◌*ℤ◌}
use lib.ListN.{get_or}
use Rattle.whole.specs.Within.{Within}
use Rattle.fwd_dct.specs.Sum.{sum}
use Rattle.fwd_dct.proofs.dot.Given as goal

abbrev pub invariant-loop-p : goal.invariant-loop-p
invariant-loop-p l = (l.s ≡ sum (2 * l.p) (λ i. get_or l.x i (pos 0) *ℤ get_or l.basis (l.row + i) (pos 0))) × Within (l.p * 2 ^ 48) (l.s)
