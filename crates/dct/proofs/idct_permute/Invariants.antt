use mathlib.Core.Path.{◌≡◌}
use lib.IntN.{pos}
use Rattle.primitives.specs.Brev.{Brev}
use lib.ListN.{get_or}
use Rattle.whole.specs.Lists.{fill}
use Rattle.dct.proofs.idct_permute.Given as goal

abbrev pub invariant-loop-i : goal.invariant-loop-i
invariant-loop-i l = l.t ≡ fill l.i (λ k. get_or l.initial.t (Brev l.n k) (pos 0)) l.initial.t
