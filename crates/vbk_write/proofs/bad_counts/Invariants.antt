use mathlib.Core.Path.{◌≡◌}
use mathlib.Core.Bool.{false, not}
use Prim.Native.Nat.{◌+◌, ◌≤◌}
use lib.Dec.{eqb}
use lib.ListN.{length, get_or}
use Rattle.whole.specs.Tests.{any_below}
use Rattle.answers.specs.Sizes.{area}
use Rattle.vbk_write.specs.Lent.{tokens_before}
use Rattle.vbk_write.proofs.bad_counts.Given as goal

-- i records have their n0² tokens each, and all of these are there
abbrev pub invariant-loop-i : goal.invariant-loop-i
invariant-loop-i l =
    (l.i ≤ length l.counts)
    × (any_below (λ k. not (eqb (get_or l.counts k 0) (area (get_or l.sizes k 0 + 2)))) l.i ≡ false)
    × (l.total ≡ tokens_before l.counts l.i)
    × (l.total ≤ l.tokens)
