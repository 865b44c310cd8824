-- Laws of signs: a magnitude with a sign, and dequantizing and quantizing as they act on magnitudes.
use mathlib.Core.Path.{◌≡◌, refl, ap}
use Prim.Native.Nat.{ℕ, zero, suc, min, ◌*◌, ◌/◌, ◌<◌}
use native.Mathlib.Nat as NatL
use native.Mathlib.Omega.{arith}
use lib.IntN.{ℤ, pos, negsuc, neg_ℤ, nat_abs, ◌*ℤ◌}
use lib.Signed.{quot_z}
use Rattle.whole.proofs.Parts.{neg_P, neg_N, eq_parts, quot_P, quot_N}
use Rattle.quant.specs.Token.{dq_denom, dequant, rounded, with_sign, quantize}
use Rattle.quant.proofs.Floor.{rounded_is}

pub abs_with_sign : (z : ℤ) (m : ℕ) → nat_abs (with_sign z m) ≡ m
abs_with_sign (pos a) m = refl
abs_with_sign (negsuc a) zero = refl
abs_with_sign (negsuc a) (suc m) = refl

pub with_own_sign : (z : ℤ) → with_sign z (nat_abs z) ≡ z
with_own_sign (pos a) = refl
with_own_sign (negsuc a) = refl

pub dequant_sign : (size n : ℕ) (t : ℤ) → dequant size (pos n) t ≡ with_sign t (nat_abs t * n / dq_denom size)
unfolding dequant
dequant_sign size n (pos a) = refl
dequant_sign size n (negsuc a) =
    let d = dq_denom size in
    let z = negsuc a *ℤ pos n in
    let v = suc a * n / d in
    eq_parts (quot_z z (pos d)) (neg_ℤ (pos v))
    (rw (quot_P z d, quot_N z d, neg_P (pos v), neg_N (pos v), neg_P (pos (suc a * n)), neg_N (pos (suc a * n)), NatL.zero-div d))

rounded_zero : (rule q : ℕ) → 0 < q → rounded rule q 0 ≡ 0
rounded_zero rule q p = rounded_is rule q 0 0 (record { low = omega arith; high = omega arith })

pub quantize_sign : (rule size cap : ℕ) (q t : ℤ) (m : ℕ) → 0 < nat_abs q
    → quantize rule size cap q (with_sign t m) ≡ with_sign t (min cap (rounded rule (nat_abs q) (m * dq_denom size)))
unfolding quantize
quantize_sign rule size cap q (pos a) m p = refl
quantize_sign rule size cap q (negsuc a) zero p =
    let e : min cap (rounded rule (nat_abs q) (0 * dq_denom size)) ≡ 0 = omega (arith, ap (rounded rule (nat_abs q)) (NatL.zero-mul (dq_denom size)), rounded_zero rule (nat_abs q) p) in
    rw e
quantize_sign rule size cap q (negsuc a) (suc m) p = refl
