-- `adst::output_place` meets its contract.
use mathlib.Core.Path.{◌≡◌, subst}
use Prim.Native.Nat.{ℕ, ◌+◌, ◌*◌, ◌/◌, ◌%◌, ◌^◌, ◌<◌}
use native.Mathlib.Omega.{arith}
use lib.Bits.{bit_xor, xor_lt}
use borrow.Author.Tests.{eq-eqb, ne_eqb}
use Rattle.adst.specs.Adst.{out8, out16, adst_out}
use Rattle.adst.proofs.output_place.Goals as goal
use Rattle.adst.proofs.output_place.Goals.{Else-n-eq4, Then-n-eq4}

-- the places are below 8, below 16, and so is each sum on the way
lt8 : (k : ℕ) → k < 8 → 4 * bit_xor (k % 2) (k / 2 % 2) + 2 * bit_xor (k / 2 % 2) (k / 4) + k / 4 < 8
lt8 k h = omega (arith, xor_lt 1 (k % 2) (k / 2 % 2) (omega arith) (omega arith), xor_lt 1 (k / 2 % 2) (k / 4) (omega arith) (omega arith))

lt16 : (k : ℕ) → k < 16 → 8 * bit_xor (k % 2) (k / 2 % 2) + 4 * bit_xor (k / 2 % 2) (k / 4 % 2) + 2 * bit_xor (k / 4 % 2) (k / 8) + k / 8 < 16
lt16 k h =
    omega (arith, xor_lt 1 (k % 2) (k / 2 % 2) (omega arith) (omega arith), xor_lt 1 (k / 2 % 2) (k / 4 % 2) (omega arith) (omega arith), xor_lt 1 (k / 4 % 2) (k / 8) (omega arith) (omega arith))

in16 : (c : Then-n-eq4) → c.args.k < 16
in16 c = subst (λ (n : ℕ). c.args.k < 2 ^ n) c.if-n-eq4.true c.requires.2

in8 : (c : Else-n-eq4) → c.args.k < 8
in8 c = let e : c.args.n ≡ 3 = omega (arith, c.if-n-eq4.false) in subst (λ (n : ℕ). c.args.k < 2 ^ n) e c.requires.2

pub returns-then-n-eq4 : goal.returns-then-n-eq4
unfolding adst_out out16
returns-then-n-eq4 c = let s = c.args in (rw (eq-eqb s.n 4 c.if-n-eq4.true), lt16 s.k (in16 c))

pub returns : goal.returns
unfolding adst_out out8
returns c = let s = c.args in (rw (ne_eqb s.n 4 c.if-n-eq4.false), omega (arith, lt8 s.k (in8 c)))
