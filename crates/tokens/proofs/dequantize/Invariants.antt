use mathlib.Core.Path.{◌≡◌}
use Prim.Native.Nat.{◌-◌, ◌≤◌}
use lib.IntN.{pos}
use lib.ListN.{get_or}
use Rattle.whole.specs.Lists.{fill}
use Rattle.quant.specs.Places.{quantizer_at}
use Rattle.quant.specs.Token.{dequant}
use Rattle.tokens.proofs.dequantize.Given as goal

abbrev pub invariant-loop-k : goal.invariant-loop-k
invariant-loop-k l =
    (l.k ≤ l.count) × (l.block ≡ fill l.k (λ i. dequant l.coding.size (quantizer_at l.coding.dc_quant l.coding.ac_quant i) (get_or l.tokens i (pos 0))) l.initial.block)

abbrev pub decreases-loop-k : goal.decreases-loop-k
decreases-loop-k l = l.count - l.k
