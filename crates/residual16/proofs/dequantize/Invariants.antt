use Rattle.std.proofs.Common.{◌≡◌, ◌+◌, ◌-◌, ◌*◌, ◌≤◌, false, replicate, pos}
use Rattle.whole.specs.Lists.{fill}
use Rattle.answers.specs.Bad.{bad_quantizer}
use Rattle.answers.specs.Sizes.{side}
use Rattle.quant.specs.declared.DcQuant.{DcQuant}
use Rattle.residual16.specs.Inner.{tiled}
use Rattle.residual16.proofs.dequantize.Given as goal

abbrev pub invariant-loop-q : goal.invariant-loop-q
invariant-loop-q l =
    (1 ≤ l.q) × (l.q ≤ l.q-end)
    × ((dc : DcQuant) → bad_quantizer dc.0 ≡ false → l.initial.z ≡ fill (8 * side (l.size + 2) * 1) (tiled l.size dc l.ac_quant l.tokens) (replicate 1024 (pos 0))
    → l.z ≡ fill (8 * side (l.size + 2) * l.q) (tiled l.size dc l.ac_quant l.tokens) (replicate 1024 (pos 0)))

abbrev pub decreases-loop-q : goal.decreases-loop-q
decreases-loop-q l = l.q-end - l.q
