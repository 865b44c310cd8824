use mathlib.Core.Path.{◌≡◌}
use Prim.Native.Nat.{◌+◌, ◌-◌, ◌*◌}
use lib.IntN.{pos, ◌+ℤ◌, ◌-ℤ◌}
use lib.ListN.{get_or}
use Rattle.whole.specs.Lists.{fill}
use Rattle.fwd_dct.proofs.fold.Given as goal

abbrev pub invariant-loop-i : goal.invariant-loop-i
invariant-loop-i l =
    (l.sums ≡ fill l.i (λ i. get_or l.s (l.start + i * l.step) (pos 0) +ℤ get_or l.s (l.start + (2 * l.half - 1 - i) * l.step) (pos 0)) l.initial.sums)
    × (l.differences ≡ fill l.i (λ i. get_or l.s (l.start + i * l.step) (pos 0) -ℤ get_or l.s (l.start + (2 * l.half - 1 - i) * l.step) (pos 0)) l.initial.differences)
