-- A quantizer and its product with a token, as the machine has them.
use mathlib.Core.Path.{◌≡◌, refl}
use mathlib.Core.Bool.{Bool, true, false}
use Prim.Native.Nat.{ℕ, ◌*◌, ◌≤◌, ◌^◌}
use native.Mathlib.Nat as NatL
use native.Mathlib.Omega.{arith}
use lib.Dec.{T, eqb}
use lib.IntN.{ℤ, pos, negsuc, neg_ℤ, nat_abs, ◌-ℤ◌, ◌*ℤ◌}
use lib.Signed.{lt_z, non_neg}
use mir.Syntax.{w16, w32, w64}
use mir.Val.{SFits, Fits, to_z}
use Rattle.whole.specs.Within.{Within}
use Rattle.whole.proofs.Signed.{rd, C, loc, ◌⊗◌, minus, fits, value}
use Rattle.whole.proofs.Parts.{lt_z_true, lt_z_false}
use Rattle.whole.proofs.Within.{within_abs, within_sfits, back}
use Rattle.answers.specs.Bad.{bad_quantizer}
use Rattle.answers.specs.Limits.{QUANT_LIMIT, codeable}
use Rattle.answers.proofs.Passed.{quantizer}
use Rattle.quant.specs.Token.{dq_denom, with_sign}

module _ (q : ℤ) (h : bad_quantizer q ≡ false) where
  in_range : Within QUANT_LIMIT q
  in_range = within_abs (quantizer q h).most

  pub number : rd w32 q ≡ q
  number = back w32 (omega arith) in_range

  pub signed_cast : SFits w64 (rd w32 q)
  signed_cast = rw number (within_sfits {m = QUANT_LIMIT} (omega arith) in_range)

  -- at 16 bits
  pub number_16 : rd w16 q ≡ q
  number_16 = back w16 (omega arith) in_range

  pub short_cast : SFits w16 (rd w32 q)
  short_cast = rw number (within_sfits {m = QUANT_LIMIT} (omega arith) in_range)

  -- its product by a sum
  pub weight_most : (sum : ℕ) → sum ≤ 2 ^ 24 → sum * nat_abs q ≤ 2 ^ 39
  weight_most sum l = NatL.le_trans (NatL.mul-le-mul l (quantizer q h).most) (omega arith)

  pub plain_cast : T (non_neg (rd w32 q)) × Fits w64 (nat_abs (rd w32 q))
  plain_cast = rw number (let e : T (non_neg q) = rw (quantizer q h).is tt in (e, record { fits = omega (arith, (quantizer q h).most) }))

  module _ (token : ℤ) (k : nat_abs token ≤ codeable 12) where
    product : C
    product = loc (within_abs {m = codeable 12} {z = token} k) ⊗ loc in_range

    pub product_fits : SFits w64 (rd w64 token *ℤ rd w64 (rd w32 q))
    unfolding product
    product_fits = rw number (fits w64 product tt)

    pub product_is : rd w64 (rd w64 token *ℤ rd w64 (rd w32 q)) ≡ token *ℤ q
    unfolding product
    product_is = rw number (value w64 product tt)

-- the magnitude of a token, as a signed number and with the other sign
module _ (m : ℕ) (h : m ≤ codeable 12) where
  magnitude_range : Within (codeable 12) (pos m)
  magnitude_range = within_abs h

  pub magnitude_is : to_z w64 m ≡ pos m
  magnitude_is = back w64 {m = codeable 12} {z = pos m} (omega arith) magnitude_range

  pub minus_fits : SFits w64 (pos 0 -ℤ to_z w64 m)
  minus_fits = fits w64 (minus (loc magnitude_range)) tt

  pub minus_is : rd w64 (pos 0 -ℤ to_z w64 m) ≡ neg_ℤ (pos m)
  minus_is = value w64 (minus (loc magnitude_range)) tt

-- the sign of a coefficient that is or is not negative
pub sign_minus : (z : ℤ) (m : ℕ) → lt_z z (pos 0) ≡ true → neg_ℤ (pos m) ≡ with_sign z m
sign_minus (pos a) m h = absurd (omega (arith, lt_z_true (pos a) (pos 0) h))
sign_minus (negsuc a) m h = refl

pub sign_plus : (z : ℤ) (m : ℕ) → lt_z z (pos 0) ≡ false → pos m ≡ with_sign z m
sign_plus (pos a) m h = refl
sign_plus (negsuc a) m h = absurd (omega (arith, lt_z_false (negsuc a) (pos 0) h))

-- a coefficient's magnitude, doubled
pub wide_most : (size a : ℕ) → a ≤ 2 ^ 31 → a * dq_denom size ≤ 2 ^ 32
wide_most size a h = go (eqb size 3) refl
  where
    go : (b : Bool) → eqb size 3 ≡ b → a * dq_denom size ≤ 2 ^ 32
    go true e = rw e (omega arith)
    go false e = rw e (omega arith)
