use mathlib.Core.Path.{◌≡◌}
use Prim.Native.Nat.{ℕ, ◌+◌, ◌-◌, ◌*◌, ◌%◌, ◌^◌, ◌≤◌}
use native.Mathlib.Nat.{mod-eq_of_lt, one-mul}
use native.Mathlib.Omega.{arith}
use lib.IntN.{ℤ, pos, ◌+ℤ◌}
use lib.Pow.{pow_mono}
use lib.Dec.{lit<}
use mir.Syntax.{w64}
use mir.Val.{SFits, to_z}
use mir.Facts.{to_z-of_z, to_z_pos}
use Rattle.whole.proofs.Within.{sfits_shr, within_add, within_sfits}
use Rattle.whole.specs.Round.{Round2}
use Rattle.whole.specs.Within.{Within}
use Rattle.primitives.proofs.round2.Goals as goal

module _ (x : ℤ) (n : ℕ) (h : n ≤ 30) (b : Within (2 ^ 62) x) where
  half_le : 2 ^ (n - 1) ≤ 2 ^ 29
  half_le = pow_mono {i = n - 1} {j = 29} (omega arith)

  half : to_z w64 ((1 * 2 ^ (n - 1)) % 2 ^ 64) ≡ pos (2 ^ (n - 1))
  half = let l = half_le in rw (one-mul, mod-eq_of_lt {n = 2 ^ (n - 1)} {m = 2 ^ 64} (omega arith)) (to_z_pos w64 (omega arith))

  sum_fits : SFits w64 (x +ℤ pos (2 ^ (n - 1)))
  sum_fits = within_sfits {m = 2 ^ 62 + 2 ^ 29} (lit< tt) (within_add b (record { hi = half_le; lo = omega arith }))

pub returns : goal.returns
unfolding Round2
returns c =
    let fs = sum_fits c.args.x c.args.k c.requires.1 c.requires.2 in
    rw (to_z-of_z c.ranges.x, half c.args.x c.args.k c.requires.1 c.requires.2, to_z-of_z fs)
    (to_z-of_z (sfits_shr (2 ^ c.args.k) fs))
