use mathlib.Core.Path.{◌≡◌}
use Prim.Native.Nat.{◌-◌, ◌*◌, ◌≤◌}
use Rattle.blocks.specs.Block.{live}
use Rattle.summary.specs.Summary.{those, mask}
use Rattle.summary.proofs.scan.Given as goal

abbrev pub invariant-loop-i : goal.invariant-loop-i
invariant-loop-i l = (l.i ≤ l.n0) × (l.summary ≡ mask (those (λ i. live (i * l.n0) l.n0 l.block) l.i))

abbrev pub decreases-loop-i : goal.decreases-loop-i
decreases-loop-i l = l.n0 - l.i
