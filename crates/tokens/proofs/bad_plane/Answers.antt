-- `tokens::bad_plane` meets its contract.
use Prim.Native.Nat.{◌*◌, ◌≤◌}
use native.Mathlib.Nat.{mul-le-mul, le_trans}
use native.Mathlib.Omega.{arith}
use borrow.Author.Tests.{lt-ltb, le-ltb}
use Rattle.answers.specs.Limits.{SIDE_LIMIT}
use Rattle.tokens.specs.Tokens.{bad_plane}
use Rattle.tokens.proofs.bad_plane.Goals as goal

-- nothing was found: the width is within its limit where the stride is
pub returns : goal.returns
unfolding bad_plane
returns c =
    rw (le-ltb _ _ c.if-stride-width.false, le-ltb _ _ c.if-stride-gt-SIDE_LIMIT.false, le-ltb _ _ (le_trans c.if-stride-width.false c.if-stride-gt-SIDE_LIMIT.false), le-ltb _ _ c.if-height-gt-SIDE_LIMIT.false)

pub returns-then-stride-width : goal.returns-then-stride-width
unfolding bad_plane
returns-then-stride-width c = rw (lt-ltb _ _ c.if-stride-width.true)

pub returns-then-stride-gt-SIDE_LIMIT : goal.returns-then-stride-gt-SIDE_LIMIT
unfolding bad_plane
returns-then-stride-gt-SIDE_LIMIT c = rw (le-ltb _ _ c.if-stride-width.false, lt-ltb _ _ c.if-stride-gt-SIDE_LIMIT.true)

pub returns-then-height-gt-SIDE_LIMIT : goal.returns-then-height-gt-SIDE_LIMIT
unfolding bad_plane
returns-then-height-gt-SIDE_LIMIT c =
    rw (le-ltb _ _ c.if-stride-width.false, le-ltb _ _ c.if-stride-gt-SIDE_LIMIT.false, le-ltb _ _ (le_trans c.if-stride-width.false c.if-stride-gt-SIDE_LIMIT.false), lt-ltb _ _ c.if-height-gt-SIDE_LIMIT.true)

pub overflow_mul-result : goal.overflow_mul-result
overflow_mul-result c =
    let p = c.args.plane in
    let m : p.stride * p.height ≤ SIDE_LIMIT * SIDE_LIMIT = mul-le-mul c.if-stride-gt-SIDE_LIMIT.false c.if-height-gt-SIDE_LIMIT.false in omega arith
