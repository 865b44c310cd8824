-- A coefficient of 16 bits: its product, which at 32 by 32 is halved and needs 32.
use mathlib.Core.Path.{◌≡◌, sym}
use Prim.Native.Nat.{ℕ, ◌*◌, ◌≤◌}
use native.Mathlib.Omega.{arith}
use borrow.Author.Tests.{ne_eqb}
use lib.Dec.{lit<}
use lib.IntN.{ℤ, pos, nat_abs, ◌*ℤ◌}
use lib.Signed.{quot_z}
use mir.Syntax.{w16, w64}
use mir.Val.{SFits}
use Rattle.whole.specs.Within.{Within}
use Rattle.whole.proofs.Parts.{quot_P, quot_N}
use Rattle.whole.proofs.Signed.{rd}
use Rattle.whole.proofs.Within.{within_abs, within_sfits, abs_mul, back}
use Rattle.quant.specs.Token.{dq_denom, dequant}
use Rattle.quant.proofs.Halves.{whole_is}

module _ (size : ℕ) (t q : ℤ) (h : nat_abs t * nat_abs q ≤ 32767 * dq_denom size) where
  module _ (e : size ≡ 3) where
    pub double_within : Within 65534 (t *ℤ q)
    double_within = within_abs (rw (abs_mul t q) (rw e at h))

    pub half_within : Within 32767 (quot_z (t *ℤ q) (pos 2))
    half_within =
        record { hi = omega (arith, quot_P (t *ℤ q) 2, double_within.hi); lo = omega (arith, quot_N (t *ℤ q) 2, double_within.lo) }

    pub half_is : quot_z (t *ℤ q) (pos 2) ≡ dequant size q t
    unfolding dequant
    half_is = rw e

  module _ (e : size ≡ 3 → ⊥) where
    pub whole_within : Within 32767 (t *ℤ q)
    whole_within = within_abs (rw (abs_mul t q) (rw (ne_eqb size 3 e) at h))

    pub whole_product : t *ℤ q ≡ dequant size q t
    unfolding dequant
    whole_product = rw (ne_eqb size 3 e) (sym (whole_is (t *ℤ q)))

-- a token of 16 bits
module _ (t : ℤ) (h : nat_abs t ≤ 32767) where
  pub token_64 : rd w64 t ≡ t
  token_64 = back w64 (lit< tt) (within_abs h)

  pub token_16 : rd w16 t ≡ t
  token_16 = back w16 (lit< tt) (within_abs h)

  pub token_cast : SFits w16 (rd w64 t)
  token_cast = rw token_64 (within_sfits {m = 32767} (lit< tt) (within_abs h))
