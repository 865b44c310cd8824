use mathlib.Core.Path.{◌≡◌}
use Prim.Native.Nat.{ℕ, ◌+◌, ◌-◌, ◌*◌, ◌%◌, ◌^◌, ◌≤◌}
use native.Mathlib.Nat.{mod-eq_of_lt, one-mul}
use native.Mathlib.Omega.{arith}
use borrow.Author.Tests.{ne_eqb}
use lib.IntN.{ℤ, pos, ◌+ℤ◌}
use lib.Pow.{pow_mono}
use lib.Dec.{lit<}
use mir.Syntax.{w32}
use mir.Val.{SFits, to_z}
use mir.Facts.{to_z-of_z, to_z_pos}
use Rattle.whole.proofs.Within.{sfits_shr, within_add, within_sfits}
use Rattle.whole.specs.Round.{Round2}
use Rattle.whole.specs.Within.{Within}
use Rattle.idct32.specs.Inner.{rounded}
use Rattle.idct32.proofs.round2.Goals as goal

module _ (x : ℤ) (n : ℕ) (h : n ≤ 6) (b : Within 32768 x) where
  half_le : 2 ^ (n - 1) ≤ 32
  half_le = pow_mono {i = n - 1} {j = 5} (omega arith)

  half : to_z w32 ((1 * 2 ^ (n - 1)) % 2 ^ 32) ≡ pos (2 ^ (n - 1))
  half = let l = half_le in rw (one-mul, mod-eq_of_lt {n = 2 ^ (n - 1)} {m = 2 ^ 32} (omega arith)) (to_z_pos w32 (omega arith))

  sum_fits : SFits w32 (x +ℤ pos (2 ^ (n - 1)))
  sum_fits = within_sfits {m = 32768 + 32} (lit< tt) (within_add b (record { hi = half_le; lo = omega arith }))

pub overflow_add-result : goal.overflow_add-result
overflow_add-result c =
    rw (to_z-of_z c.ranges.x, half c.args.x c.args.k c.requires.0 c.requires.1)
    (sum_fits c.args.x c.args.k c.requires.0 c.requires.1)

pub returns-then-k-eq0 : goal.returns-then-k-eq0
unfolding rounded
returns-then-k-eq0 c = rw (to_z-of_z c.ranges.x, c.if-k-eq0.true)

pub returns-else-k-eq0 : goal.returns-else-k-eq0
unfolding rounded Round2
returns-else-k-eq0 c =
    let fs = sum_fits c.args.x c.args.k c.requires.0 c.requires.1 in
    rw (ne_eqb c.args.k 0 c.if-k-eq0.false, to_z-of_z c.ranges.x, half c.args.x c.args.k c.requires.0 c.requires.1, to_z-of_z fs)
    (to_z-of_z (sfits_shr (2 ^ c.args.k) fs))
