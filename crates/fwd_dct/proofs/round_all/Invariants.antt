use mathlib.Core.Path.{◌≡◌}
use lib.IntN.{pos}
use lib.ListN.{get_or}
use Rattle.whole.specs.Lists.{fill}
use Rattle.whole.specs.Round.{Round2}
use Rattle.fwd_dct.proofs.round_all.Given as goal

abbrev pub invariant-loop-x : goal.invariant-loop-x
invariant-loop-x l = l.block ≡ fill l.x-index (λ k. Round2 (get_or l.initial.block k (pos 0)) l.shift) l.initial.block
