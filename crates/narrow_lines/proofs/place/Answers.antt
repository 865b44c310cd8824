-- `narrow_lines::place` meets its contract.
use mathlib.Core.Path.{refl}
use Prim.Native.Nat.{◌*◌, ◌/◌, ◌≤◌}
use native.Mathlib.Nat.{mul-le-mul}
use native.Mathlib.Omega.{arith}
use Rattle.narrow.specs.Tile.{place}
use Rattle.narrow_lines.proofs.place.Goals as goal
use Rattle.narrow_lines.proofs.place.Goals.{Start}

-- where the strip begins
below : (c : Start) → 8 * c.args.n0 * (c.args.j / 8) ≤ 256 * 4
below c = mul-le-mul (let a : 8 * c.args.n0 ≤ 256 = omega arith in a) (let b : c.args.j / 8 ≤ 4 = omega arith in b)

pub returns : goal.returns
unfolding place
returns c = refl

pub overflow_mul-result-2 : goal.overflow_mul-result-2
overflow_mul-result-2 c = omega (arith, below c)

pub overflow_add-result : goal.overflow_add-result
overflow_add-result c = omega (arith, below c)

pub overflow_add-result-2 : goal.overflow_add-result-2
overflow_add-result-2 c = omega (arith, below c)
