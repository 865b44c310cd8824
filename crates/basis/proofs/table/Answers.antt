use mathlib.Core.Path.{refl}
use Rattle.whole.specs.Lists.{tabulate}
use Rattle.primitives.specs.Cosine.{cos_at, Cos64}
use Rattle.basis.specs.Basis.{basis_at, table}
use Rattle.basis.proofs.table.Goals as goal

-- the rule, over the whole table: computed
pub returns : goal.returns
unfolding table tabulate basis_at Cos64 cos_at
returns c = refl
