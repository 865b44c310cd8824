-- `flat_adst::output8` meets its contract: the table is the rule, by computation.
use mathlib.Core.List.{List, [], ◌∷◌}
use mathlib.Core.Path.{◌≡◌}
use Prim.Native.Nat.{ℕ, ◌+◌}
use native.Mathlib.Omega.{arith}
use lib.Dec.{lit≤, lit<}
use Rattle.whole.specs.Lists.{fill, move}
use Rattle.steps.specs.Step.{step}
use Rattle.adst.specs.Adst.{adst_out, out8, out16}
use Rattle.flat.proofs.Table.{places}
use Rattle.flat_adst.proofs.output8.Goals as goal

abbrev table : List ℕ
table = 0 ∷ 4 ∷ 6 ∷ 2 ∷ 3 ∷ 7 ∷ 5 ∷ 1 ∷ []

pub returns : goal.returns
unfolding step move fill adst_out out8 out16
returns c = c.reorder.ensures

pub reorder-requires : goal.reorder-requires
reorder-requires c = (lit≤ tt, λ i h. let e : 0 + i ≡ i = omega arith in rw e at (places table 0 8 tt i h))
