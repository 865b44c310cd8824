use mathlib.Core.Path.{◌≡◌}
use Prim.Native.Nat.{◌+◌, ◌*◌}
use native.Mathlib.Omega.{arith}
use borrow.Author.Tests.{ltb-true}
use Rattle.answers.specs.Limits.{COEF_LIMIT}
use Rattle.answers.proofs.Passed.{all_within}
use Rattle.dc.proofs.surely_within.Goals as goal

pub returns : goal.returns
returns c h =
    let a = c.args in
    let each = c.or_plus_most.ensures (omega (arith, ltb-true c.or_plus_most.result (2 * COEF_LIMIT) h)) in
    all_within COEF_LIMIT a.count a.block.now (λ k l. let e : 0 + k ≡ k = omega arith in rw e at (each k l))
