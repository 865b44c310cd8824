use mathlib.Core.Path.{◌≡◌}
use mathlib.Core.List.{List}
use Prim.Native.Nat.{◌+◌, ◌*◌, ◌-◌, ◌≤◌}
use lib.IntN.{ℤ, pos}
use lib.ListN.{get_or}
use Rattle.whole.specs.Lists.{fill}
use Rattle.narrow_lines.proofs.Orders.{source}
use Rattle.narrow_lines.proofs.to_strips.Given as goal

abbrev pub invariant-loop-i : goal.invariant-loop-i
invariant-loop-i l =
    (l.i ≤ l.n0) × ((u : List ℤ) → l.initial.z ≡ fill (8 * (l.n0 * l.q)) (λ p. get_or l.s (source l.n0 p) (pos 0)) u → l.z ≡ fill (8 * (l.n0 * l.q + l.i)) (λ p. get_or l.s (source l.n0 p) (pos 0)) u)

abbrev pub decreases-loop-i : goal.decreases-loop-i
decreases-loop-i l = l.n0 - l.i

abbrev pub invariant-loop-q : goal.invariant-loop-q
invariant-loop-q l = (l.q ≤ l.q-end) × (l.z ≡ fill (8 * (l.n0 * l.q)) (λ p. get_or l.s (source l.n0 p) (pos 0)) l.initial.z)

abbrev pub decreases-loop-q : goal.decreases-loop-q
decreases-loop-q l = l.q-end - l.q
