-- `plane::place` meets its contract.
use Prim.Native.Nat.{◌*◌, ◌≤◌}
use native.Mathlib.Nat.{mul-le-mul}
use native.Mathlib.Omega.{arith}
use Rattle.answers.specs.Limits.{SIDE_LIMIT}
use Rattle.plane.proofs.place.Goals as goal

pub overflow_mul-result : goal.overflow_mul-result
overflow_mul-result c =
    let m : c.args.row * c.args.plane.stride ≤ SIDE_LIMIT * SIDE_LIMIT = mul-le-mul c.requires.1 c.requires.0 in omega arith

pub overflow_add-result : goal.overflow_add-result
overflow_add-result c =
    let m : c.args.row * c.args.plane.stride ≤ SIDE_LIMIT * SIDE_LIMIT = mul-le-mul c.requires.1 c.requires.0 in omega arith
