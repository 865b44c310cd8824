use mathlib.Core.Path.{◌≡◌}
use lib.IntN.{pos}
use lib.ListN.{get_or}
use Rattle.whole.specs.Lists.{fill}
use Rattle.adst.specs.Adst.{adst_out}
use Rattle.adst.proofs.adst_output_permute.Given as goal

abbrev pub invariant-loop-k : goal.invariant-loop-k
invariant-loop-k l = l.t ≡ fill l.k (λ k. get_or l.initial.t (adst_out l.n k) (pos 0)) l.initial.t
