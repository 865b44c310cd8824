use Prim.Native.Nat.{◌*◌, ◌≤◌}
use native.Mathlib.Nat as N
use native.Mathlib.Omega.{arith}
use borrow.Author.Tests.{eq-eqb, ne_eqb}
use Rattle.plane.specs.Place.{written}
use Rattle.touched.specs.Touched.{touched_by}
use Rattle.touched.proofs.touched_by.Goals as goal

pub returns-then-answer-ne0 : goal.returns-then-answer-ne0
unfolding touched_by
returns-then-answer-ne0 c = rw (ne_eqb c.args.answer 0 c.if-answer-ne0.true)

pub returns : goal.returns
unfolding touched_by written
returns c =
    rw (c.cut-rows.ensures, c.cut-cols.ensures, c.side-n0.ensures.0, eq-eqb c.args.answer 0 c.if-answer-ne0.false)

-- neither is above n0, which is 32 at most
pub overflow_mul-result : goal.overflow_mul-result
overflow_mul-result c =
    let n = c.side-n0.ensures.1 in
    let a : c.cut-rows.result ≤ 32 = omega (arith, c.cut-rows.ensures, n) in
    let b : c.cut-cols.result ≤ 32 = omega (arith, c.cut-cols.ensures, n) in
    let m : c.cut-rows.result * c.cut-cols.result ≤ 32 * 32 = N.mul-le-mul a b in
    omega arith
