-- Laws of the basis: what the table has at each place, and that every smaller basis is read out of it.
use mathlib.Core.Path.{◌≡◌, sym, ap, ◌∙◌}
use Prim.Native.Nat.{ℕ, zero, suc, ◌+◌, ◌-◌, ◌*◌, ◌/◌, ◌%◌, ◌^◌, ◌≤◌, ◌<◌}
use native.Mathlib.Nat as NatL
use native.Mathlib.Omega.{arith}
use borrow.Author.Tests.{ne_eqb}
use lib.Dec.{eqb}
use lib.IntN.{pos}
use lib.ListN.{get_or}
use lib.Pow.{pow_mono, pow_pos, pow-add}
use Rattle.whole.specs.Within.{Within}
use Rattle.whole.proofs.Within.{within_cond, within_lit}
use Rattle.whole.proofs.Lists.{get_d_tabulate}
use Rattle.primitives.proofs.Cosine.{cos_within}
use Rattle.basis.specs.Basis.{basis_at, table}

-- every entry of every basis is within 2^14
pub basis_within : (n k i : ℕ) → Within 16384 (basis_at n k i)
unfolding basis_at
basis_within n k i = within_cond (eqb k 0) (within_lit 16384 (pos 11585) tt) (cos_within (pos ((2 * i + 1) * k * 2 ^ (5 - n))))

pub table_at : (k i : ℕ) → k < 32 → i < 32 → get_or table (k * 32 + i) (pos 0) ≡ basis_at 5 k i
unfolding table
table_at k i h l =
    let e : (k * 32 + i) / 32 ≡ k = omega arith in
    let f : (k * 32 + i) % 32 ≡ i = omega arith in
    rw (e, f) at (get_d_tabulate (λ j. basis_at 5 (j / 32) (j % 32)) 1024 (k * 32 + i) (pos 0) (omega arith))

-- row k of the basis of 2^n points is row k·2^(5−n) of the 32, as far as it goes
as_large : (n k i : ℕ) → n ≤ 5 → basis_at n k i ≡ basis_at 5 (k * 2 ^ (5 - n)) i
unfolding basis_at
as_large n zero i h = rw (NatL.zero-mul (2 ^ (5 - n)))
as_large n (suc k) i h =
    let d = 2 ^ (5 - n) in
    let p : 0 < d = pow_pos (5 - n) in
    let e : (2 * i + 1) * (suc k * d) * 2 ^ (5 - 5) ≡ (2 * i + 1) * suc k * d = omega arith in
    rw (ne_eqb (suc k) 0 (λ z. omega arith), ne_eqb (suc k * d) 0 (λ z. omega arith), e)

pub row_below : (n k : ℕ) → n ≤ 5 → k < 2 ^ n → k * 2 ^ (5 - n) < 32
row_below n k h l =
    let d = 2 ^ (5 - n) in
    let w : 2 ^ n * d ≡ 32 = sym (pow-add 2 n (5 - n)) ∙ ap (λ (x : ℕ). 2 ^ x) (NatL.add-sub_of_le h) in
    omega (arith, NatL.mul-lt-mul_of_pos_right l (pow_pos (5 - n)))

-- THE SMALLER BASES are read out of the one table
pub smaller : (n k i : ℕ) → n ≤ 5 → k < 2 ^ n → i < 2 ^ n → get_or table (k * (2 ^ (5 - n) * 32) + i) (pos 0) ≡ basis_at n k i
smaller n k i h l m =
    let q : 2 ^ n ≤ 2 ^ 5 = pow_mono h in
    let e : k * (2 ^ (5 - n) * 32) + i ≡ k * 2 ^ (5 - n) * 32 + i = omega arith in
    rw e (table_at (k * 2 ^ (5 - n)) i (row_below n k h l) (omega arith) ∙ sym (as_large n k i h))
