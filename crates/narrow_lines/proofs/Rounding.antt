-- Round2 of a number of 16 bits by two shifts.
use mathlib.Core.Path.{◌≡◌}
use Prim.Native.Nat.{ℕ, ◌*◌, ◌≤◌, ◌<◌}
use native.Mathlib.Nat as NatL
use native.Mathlib.Omega.{arith}
use lib.Dec.{lit<}
use lib.IntN.{ℤ, pos, ◌+ℤ◌}
use lib.Signed.{shr_z}
use mir.Syntax.{w16}
use mir.Val.{SFits}
use Rattle.whole.specs.Parts.{P, N}
use Rattle.whole.specs.Round.{Round2}
use Rattle.whole.specs.Within.{Within}
use Rattle.whole.proofs.Parts.{eq_parts, sum_parts, shr_low, shr_high}
use Rattle.whole.proofs.Within.{within_shr, sfits_P, sfits_N}

-- x >> k with one added, of a number of 16 bits
module _ (x : ℤ) (f : SFits w16 x) where
  pub shifted : (m : ℕ) → 16 ≤ m → Within 2048 (shr_z x m)
  shifted m h =
      let a : P x < 32768 = sfits_P f in
      let b : N x ≤ 32768 = sfits_N f in
      let c : 2048 * 16 ≤ 2048 * m = NatL.mul-le-mul (NatL.le_refl 2048) h in
      within_shr 2048 m x (omega arith) (omega arith) (omega arith)

-- Round2 by two shifts: floor((floor(x / h) + 1) / 2) is floor((x + h) / 2h)
pub round_5 : (x : ℤ) → shr_z (shr_z x 16 +ℤ pos 1) 2 ≡ Round2 x 5
unfolding Round2
round_5 x = go
  where
    u : ℤ
    u = shr_z x 16

    v : ℤ
    v = shr_z (u +ℤ pos 1) 2

    w : ℤ
    w = shr_z (x +ℤ pos 16) 32

    go : v ≡ w
    go =
        eq_parts v w
        (omega
        (arith, sum_parts u (pos 1), sum_parts x (pos 16), shr_low x 16 (lit< tt), shr_high x 16 (lit< tt), shr_low (u +ℤ pos 1) 2 (lit< tt), shr_high (u +ℤ pos 1) 2 (lit< tt), shr_low (x +ℤ pos 16) 32 (lit< tt), shr_high (x +ℤ pos 16) 32 (lit< tt)))

pub round_6 : (x : ℤ) → shr_z (shr_z x 32 +ℤ pos 1) 2 ≡ Round2 x 6
unfolding Round2
round_6 x = go
  where
    u : ℤ
    u = shr_z x 32

    v : ℤ
    v = shr_z (u +ℤ pos 1) 2

    w : ℤ
    w = shr_z (x +ℤ pos 32) 64

    go : v ≡ w
    go =
        eq_parts v w
        (omega
        (arith, sum_parts u (pos 1), sum_parts x (pos 32), shr_low x 32 (lit< tt), shr_high x 32 (lit< tt), shr_low (u +ℤ pos 1) 2 (lit< tt), shr_high (u +ℤ pos 1) 2 (lit< tt), shr_low (x +ℤ pos 32) 64 (lit< tt), shr_high (x +ℤ pos 32) 64 (lit< tt)))
