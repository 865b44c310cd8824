use mathlib.Core.Path.{◌≡◌}
use Prim.Native.Nat.{◌*◌, ◌≤◌}
use Rattle.weights.specs.Inner.{total}
use Rattle.narrow_lines.proofs.total.Given as goal

abbrev pub invariant-loop-x : goal.invariant-loop-x
invariant-loop-x l = (l.x-index ≤ l.count) × (l.all ≡ total l.x-index l.z) × (l.all ≤ l.x-index * 32768)
