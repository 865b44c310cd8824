use mathlib.Core.Path.{◌≡◌}
use Prim.Native.Nat.{◌*◌}
use lib.IntN.{pos}
use lib.ListN.{get_or}
use Rattle.whole.specs.Lists.{fill}
use Rattle.adst.specs.Adst.{adst_in}
use Rattle.adst.proofs.adst_input_permute.Given as goal

abbrev pub invariant-loop-i : goal.invariant-loop-i
invariant-loop-i l = l.t ≡ fill (2 * l.i) (λ k. get_or l.initial.t (adst_in l.n k) (pos 0)) l.initial.t
