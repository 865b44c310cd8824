use Rattle.std.proofs.Common.{◌≡◌, ℕ, ◌+◌, ◌-◌, ◌<◌, ◌≤◌, length, get_or, pos}
use Rattle.quant.specs.Token.{dequant}
use Rattle.residual16.proofs.eight.Given as goal

abbrev pub invariant-loop-j : goal.invariant-loop-j
invariant-loop-j l =
    (l.j ≤ 8) × (l.from ≤ l.j) × (length l.o ≡ 8) × ((i : ℕ) → l.from ≤ i → i < l.j → get_or l.o i (pos 0) ≡ dequant l.size l.ac_quant.0 (get_or l.tokens (l.at + i) (pos 0)))

abbrev pub decreases-loop-j : goal.decreases-loop-j
decreases-loop-j l = 8 - l.j
