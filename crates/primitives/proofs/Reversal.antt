-- Laws of brev: its range, and one bit at a time from the lowest.
use mathlib.Core.Path.{◌≡◌}
use Prim.Native.Nat.{ℕ, zero, suc, ◌+◌, ◌-◌, ◌*◌, ◌/◌, ◌%◌, ◌^◌, ◌≤◌, ◌<◌}
use native.Mathlib.Nat as NatL
use native.Mathlib.Omega.{arith}
use lib.Pow.{pow-lt, pow_mono}
use Rattle.primitives.specs.Brev.{Brev}

bit_le : (b m : ℕ) → b < 2 → b * m ≤ m
bit_le b m h = omega (arith, NatL.mul-le-mul_right {m = b} {n = 1} m (omega arith))

pub brev_lt : (k x : ℕ) → Brev k x < 2 ^ k
unfolding Brev
brev_lt zero x = omega arith
brev_lt (suc k) x = omega (arith, brev_lt k (x / 2), bit_le (x % 2) (2 ^ k) (omega arith), NatL.pow-suc 2 k)

-- the lowest bit of what is left goes to the highest place that is left
pub brev_more : (n i r : ℕ) → i < n → Brev (n - i) r ≡ r % 2 * 2 ^ (n - 1 - i) + Brev (n - (i + 1)) (r / 2)
unfolding Brev
brev_more n i r h =
    let e : n - i ≡ suc (n - 1 - i) = omega arith in
    let f : n - (i + 1) ≡ n - 1 - i = omega arith in
    rw (e, f)

pub brev_end : (n i r : ℕ) → n ≤ i → Brev (n - i) r ≡ 0
unfolding Brev
brev_end n i r h = let e : n - i ≡ 0 = omega arith in rw e

-- one turn of the code's loop: t has the bits so far, r those that are left
module _ (n x : ℕ) (h : n ≤ 5) (i r t : ℕ) (l : i < n) (e : t + Brev (n - i) r ≡ Brev n x) where
  shl_exact : (r % 2 * 2 ^ (n - 1 - i)) % 2 ^ 64 ≡ r % 2 * 2 ^ (n - 1 - i)
  shl_exact =
      NatL.mod-eq_of_lt (NatL.lt_of_le_of_lt (bit_le (r % 2) (2 ^ (n - 1 - i)) (omega arith)) (pow-lt {i = n - 1 - i} {j = 64} (omega arith)))

  pub brev_turn : t + (r % 2 * 2 ^ (n - 1 - i)) % 2 ^ 64 + Brev (n - (i + 1)) (r / 2) ≡ Brev n x
  brev_turn = rw shl_exact (omega (arith, brev_more n i r l))

  pub brev_fits : t + (r % 2 * 2 ^ (n - 1 - i)) % 2 ^ 64 < 2 ^ 64
  brev_fits = omega (arith, brev_turn, brev_lt n x, pow_mono {i = n} {j = 5} h)
