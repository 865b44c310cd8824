-- `magnitude` at a negative number z: −(z + 1) is `mag z`, and everything on the way fits.
use mathlib.Core.Path.{◌≡◌, ◌∙◌}
use mathlib.Core.Bool.{true, false}
use Prim.Native.Nat.{ℕ, zero, suc, ◌+◌, ◌≤◌}
use native.Mathlib.Omega.{arith}
use native.Mathlib.Numerals.{add-one}
use borrow.Author.Tests.{ltb-true}
use lib.Dec.{T}
use lib.IntN.{ℤ, pos, negsuc, nat_abs, neg_ℤ, ◌+ℤ◌, ◌-ℤ◌, +ℤ_one, +ℤ_idl, neg_ℤ-neg_ℤ}
use lib.Signed.{lt_z, mag, non_neg}
use mir.Syntax.{w64}
use mir.Val.{SFits, Fits, to_z, of_z}
use mir.ValLaws.{to_z-of_z}

up : (z : ℤ) → lt_z z (pos 0) ≡ true → z +ℤ pos 1 ≡ neg_ℤ (pos (mag z))
up (negsuc zero) h = +ℤ_one (negsuc zero)
up (negsuc (suc n)) h = +ℤ_one (negsuc (suc n))
up (pos n) h = absurd (omega (arith, ltb-true n 0 h))

small : (n : ℕ) → mag (neg_ℤ (pos n)) ≤ n
small zero = omega arith
small (suc n) = omega arith

abs_suc : (z : ℤ) → lt_z z (pos 0) ≡ true → mag z + 1 ≡ nat_abs z
abs_suc (negsuc n) h = add-one n
abs_suc (pos n) h = absurd (omega (arith, ltb-true n 0 h))

module _ (z : ℤ) (f : SFits w64 z) (h : lt_z z (pos 0) ≡ true) where
  pub one_fits : SFits w64 (z +ℤ pos 1)
  one_fits = rw (up z h) (record { sfits = omega (arith, small (mag z), f.sfits) })

  pub back : pos 0 -ℤ to_z w64 (of_z w64 (z +ℤ pos 1)) ≡ pos (mag z)
  back = rw (to_z-of_z w64 (z +ℤ pos 1) one_fits, up z h) (+ℤ_idl (neg_ℤ (neg_ℤ (pos (mag z)))) ∙ neg_ℤ-neg_ℤ (pos (mag z)))

  pub back_fits : SFits w64 (pos 0 -ℤ to_z w64 (of_z w64 (z +ℤ pos 1)))
  back_fits = rw back (record { sfits = f.sfits })

  -- what the code has after both steps
  pub whole : to_z w64 (of_z w64 (pos 0 -ℤ to_z w64 (of_z w64 (z +ℤ pos 1)))) ≡ pos (mag z)
  whole = to_z-of_z w64 _ back_fits ∙ back

  pub abs_is : mag z + 1 ≡ nat_abs z
  abs_is = abs_suc z h

pub not_neg : (z : ℤ) → SFits w64 z → lt_z z (pos 0) ≡ false → T (non_neg z) × Fits w64 (nat_abs z)
not_neg (pos n) f h = (tt, omega (arith, f.sfits))
not_neg (negsuc n) f h = absurd (let z : ◌≡◌ {A = ℕ} 0 1 = cc in omega arith)
