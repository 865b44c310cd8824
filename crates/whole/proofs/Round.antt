-- Laws of Round2: how far it reaches.
use mathlib.Core.Path.{◌≡◌}
use Prim.Native.Nat.{ℕ, zero, suc, ◌+◌, ◌-◌, ◌/◌, ◌^◌, ◌≤◌}
use native.Mathlib.Nat as NatL
use native.Mathlib.Numerals.{sub-one}
use native.Mathlib.Omega.{arith}
use lib.IntN.{ℤ, pos, ◌+ℤ◌}
use lib.Pow.{pow_pos}
use Rattle.whole.specs.Within.{Within}
use Rattle.whole.specs.Round.{Round2}
use Rattle.whole.proofs.Parts.{sum_parts, apart}
use Rattle.whole.proofs.Within.{within_shr}

-- 2^k is twice 2^(k − 1)
pub two_halves : (k : ℕ) → 1 ≤ k → 2 ^ k ≡ 2 ^ (k - 1) + 2 ^ (k - 1)
two_halves zero h = absurd (omega arith)
two_halves (suc k) h = rw sub-one (omega (arith, NatL.pow-suc 2 k))

-- from within m to within floor((m + 2^(k − 1)) / 2^k)
pub round2_within : (k : ℕ) {m : ℕ} {x : ℤ} → 1 ≤ k → Within m x → Within ((m + 2 ^ (k - 1)) / 2 ^ k) (Round2 x k)
unfolding Round2
round2_within k {m} {x} h b =
    let half = 2 ^ (k - 1) in
    let z = x +ℤ pos half in
    let e = two_halves k h in
    let q = NatL.lt-div-mul-add {a = m + half} {b = 2 ^ k} (pow_pos k) in
    within_shr ((m + half) / 2 ^ k) (2 ^ k) z (pow_pos k) (omega (arith, sum_parts x (pos half), apart z)) (omega (arith, sum_parts x (pos half), apart z))
