use mathlib.Core.Path.{◌≡◌}
use mathlib.Core.List.{List}
use Prim.Native.Nat.{◌+◌, ◌-◌, ◌*◌, ◌≤◌}
use lib.IntN.{ℤ}
use lib.ListN.{length}
use Rattle.primitives.specs.Brev.{Brev}
use Rattle.flat.proofs.Exchange.{exchanges}
use Rattle.narrow_dct.proofs.permute.Given as goal

abbrev pub invariant-loop-b : goal.invariant-loop-b
invariant-loop-b l = (l.b ≤ l.k) × (length l.t ≡ 32) × ((u : List ℤ) → l.initial.t ≡ exchanges (Brev l.n) (l.k * l.a) u → l.t ≡ exchanges (Brev l.n) (l.k * l.a + l.b) u)

abbrev pub decreases-loop-b : goal.decreases-loop-b
decreases-loop-b l = l.k - l.b

abbrev pub invariant-loop-a : goal.invariant-loop-a
invariant-loop-a l = (l.a ≤ l.h) × (length l.t ≡ 32) × (l.t ≡ exchanges (Brev l.n) (l.k * l.a) l.initial.t)

abbrev pub decreases-loop-a : goal.decreases-loop-a
decreases-loop-a l = l.h - l.a
