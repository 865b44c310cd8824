use Rattle.std.proofs.Common.{◌≡◌, ◌+◌, ◌-◌, ◌*◌, ◌≤◌, replicate, pos}
use Rattle.whole.specs.Lists.{fill}
use Rattle.answers.specs.Sizes.{side}
use Rattle.quant.specs.declared.DcQuant.{DcQuant}
use Rattle.residual16.specs.Inner.{tiled}
use Rattle.residual16.proofs.dequantize_strip.Given as goal

abbrev pub invariant-loop-i : goal.invariant-loop-i
invariant-loop-i l =
    (l.from ≤ l.i) × (l.i ≤ l.rows)
    × ((dc : DcQuant) → l.initial.z ≡ fill (8 * side (l.size + 2) * l.q + 8 * l.from) (tiled l.size dc l.ac_quant l.tokens) (replicate 1024 (pos 0))
    → l.z ≡ fill (8 * side (l.size + 2) * l.q + 8 * l.i) (tiled l.size dc l.ac_quant l.tokens) (replicate 1024 (pos 0)))

abbrev pub decreases-loop-i : goal.decreases-loop-i
decreases-loop-i l = l.rows - l.i
