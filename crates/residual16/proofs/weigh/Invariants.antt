use Rattle.std.proofs.Common.{◌≡◌, ℕ, ◌-◌, ◌*◌, ◌/◌, ◌<◌, ◌≤◌, get_or, pos}
use Rattle.residual16.specs.Inner.{Weighed}
use Rattle.residual16.proofs.weigh.Given as goal

abbrev pub invariant-loop-s : goal.invariant-loop-s
invariant-loop-s l =
    (l.s ≤ l.n0 / 8) × Weighed 0 (8 * l.n0 * l.s) l.tokens l.all l.sum × (1 ≤ l.strips) × (8 * l.strips ≤ l.n0)
    × ((k : ℕ) → 8 * l.strips * l.n0 ≤ k → k < 8 * l.n0 * l.s → get_or l.tokens k (pos 0) ≡ pos 0)

abbrev pub decreases-loop-s : goal.decreases-loop-s
decreases-loop-s l = l.n0 / 8 - l.s
