-- `idct32::give` meets its contract.
use mathlib.Core.Path.{◌≡◌, sym}
use mathlib.Core.Logic.{⊎_elim}
use Prim.Native.Nat.{ℕ, ◌≤◌, ◌<◌}
use native.Mathlib.Nat.{eq-or-lt_of_le}
use native.Mathlib.Omega.{arith}
use Rattle.blocks.specs.Inverse.{bits, rounding}
use Rattle.idct32.specs.Inner.{rounded}
use Rattle.idct32.proofs.give.Goals as goal

six : (n : ℕ) → 4 ≤ n → n ≤ 5 → bits n ≡ 6
six n l h = ⊎_elim (λ (e : 4 ≡ n). rw (sym e)) (λ (q : 4 < n). let e : n ≡ 5 = omega arith in rw e) (eq-or-lt_of_le l)

pub give_rounded-requires : goal.give_rounded-requires
give_rounded-requires c =
    (omega arith, rw (c.requires.2 c.if-lossless.true) at c.requires.3, omega arith)

pub give_rounded-requires-then-n-eq2 : goal.give_rounded-requires-then-n-eq2
give_rounded-requires-then-n-eq2 c =
    (omega arith, rw c.if-n-eq2.true at c.requires.3, omega arith)

pub give_rounded-requires-then-n-eq3 : goal.give_rounded-requires-then-n-eq3
give_rounded-requires-then-n-eq3 c =
    (omega arith, rw c.if-n-eq3.true at c.requires.3, omega arith)

pub returns-then-lossless : goal.returns-then-lossless
unfolding rounding rounded
returns-then-lossless c =
    rw (c.requires.2 c.if-lossless.true, c.if-lossless.true) c.give_rounded.ensures

pub returns-then-n-eq2 : goal.returns-then-n-eq2
unfolding rounding rounded
returns-then-n-eq2 c =
    rw (c.if-n-eq2.true, c.if-lossless.false) c.give_rounded-then-n-eq2.ensures

pub returns-then-n-eq3 : goal.returns-then-n-eq3
unfolding rounding rounded
returns-then-n-eq3 c =
    rw (c.if-n-eq3.true, c.if-lossless.false) c.give_rounded-then-n-eq3.ensures

pub returns-else-n-eq3 : goal.returns-else-n-eq3
unfolding rounding rounded
returns-else-n-eq3 c =
    rw (c.if-lossless.false, six c.args.n (omega (arith, c.requires.0, c.if-n-eq3.false, c.if-n-eq2.false)) c.requires.1) (rw c.area.ensures.0 at c.give_rounded-else-n-eq3.ensures)
