use mathlib.Core.Path.{◌≡◌}
use Prim.Native.Nat.{◌-◌, ◌≤◌}
use lib.ListN.{length}
use Rattle.whole.specs.Lists.{fill}
use Rattle.fwd_transform.specs.Quantize.{token_at}
use Rattle.fwd_transform.proofs.tokens_in_place.Given as goal

-- after k turns
abbrev pub invariant-loop-k : goal.invariant-loop-k
invariant-loop-k l =
    (l.k ≤ length l.initial.coefs) × (length l.coefs ≡ length l.initial.coefs)
    × (l.coefs ≡ fill l.k (token_at l.rule (record { coefs = l.initial.coefs; dc = l.dc; ac = l.ac; size = l.size; depth = l.depth })) l.initial.coefs)

abbrev pub decreases-loop-k : goal.decreases-loop-k
decreases-loop-k l = length l.initial.coefs - l.k
