-- The magnitudes of a block added up: on 64 bits, strip by strip, and as products with the quantizers.
use Rattle.std.proofs.Common.{◌≡◌, ℕ, zero, suc, ◌+◌, ◌-◌, ◌*◌, ◌/◌, ◌%◌, ◌^◌, ◌<◌, ◌≤◌, Bool, true, false, cond, eqb, List, length, get_or, ℤ, pos, negsuc, nat_abs, sym, refl, ap, ◌∙◌, arith, lit≤, ne_eqb}
use native.Mathlib.Nat as NatL
use native.Mathlib.Decide.{dec_lt}
use lib.Bits.{bit_or}
use Rattle.whole.specs.Lists.{tabulate}
use Rattle.whole.proofs.Lists.{get_d_tabulate}
use Rattle.answers.specs.Bad.{bad_quantizer}
use Rattle.answers.proofs.Passed.{quantizer}
use Rattle.quant.specs.declared.DcQuant.{DcQuant}
use Rattle.quant.specs.declared.AcQuant.{AcQuant}
use Rattle.quant.specs.Places.{quantizer_at, dequant_all}
use Rattle.quant.specs.Token.{dq_denom, dequant}
use Rattle.quant.proofs.Sign.{dequant_sign, abs_with_sign}
use Rattle.blocks.proofs.Near.{or_left, or_right}
use Rattle.weights.specs.Inner.{sum, total}
use Rattle.weights.proofs.Sums.{sum_same, sum_one, sum_join}
use Rattle.residual16.specs.Inner.{Weighed, Short}

-- ---- one more number, and a strip more
pub weighed_none : (start : ℕ) (s : List ℤ) → Weighed start 0 s 0 0
unfolding sum
weighed_none start s = record { each = λ k h. absurd (omega arith); whole = refl }

-- sums on 64 bits
mod_sum : (a b : ℕ) → (a % 2 ^ 64 + b % 2 ^ 64) % 2 ^ 64 ≡ (a + b) % 2 ^ 64
mod_sum a b = omega arith

pub weighed_join : (start m n : ℕ) (s : List ℤ) (all added al ad : ℕ) → Weighed start m s all added → Weighed (start + m) n s al ad
    → Weighed start (m + n) s (bit_or all al) ((added + ad) % 2 ^ 64)
weighed_join start m n s all added al ad v w =
    let f : ℕ → ℕ = λ k. nat_abs (get_or s (start + k) (pos 0)) in
    let e = sum_same n (λ k. nat_abs (get_or s (start + m + k) (pos 0))) (λ k. f (m + k)) (λ k l. ap (λ p. nat_abs (get_or s p (pos 0))) (omega arith)) in
    let g = sum_join m n f in
    record {
      each = λ k h. go k h (dec_lt k m);
      whole = rw (v.whole, w.whole, e, g) (mod_sum (sum m f) (sum n (λ k. f (m + k))));
    }
  where
    go : (k : ℕ) → k < m + n → Dec (k < m) → nat_abs (get_or s (start + k) (pos 0)) ≤ bit_or all al
    go k h (yes l) = NatL.le_trans (v.each k l) (or_left all al)
    go k h (no l) =
        let e : start + m + (k - m) ≡ start + k = omega arith in
        NatL.le_trans (rw e at (w.each (k - m) (omega arith))) (or_right all al)

-- a single number
pub weighed_one : (start : ℕ) (s : List ℤ) (m : ℕ) → m ≡ nat_abs (get_or s start (pos 0)) → m < 2 ^ 64 → Weighed start 1 s m m
unfolding sum
weighed_one start s m e h =
    let q : start + 0 ≡ start = omega arith in
    record {
      each = λ k l. let z : k ≡ 0 = omega arith in rw (z, q) (omega (arith, e));
      whole = rw q (omega (arith, e));
    }

-- ---- the sum of small numbers is exact
sum_most : (n m : ℕ) (f : ℕ → ℕ) → ((k : ℕ) → k < n → f k ≤ m) → sum n f ≤ n * m
unfolding sum
sum_most zero m f h = omega arith
sum_most (suc n) m f h = omega (arith, h 0 (omega arith), sum_most n m (λ k. f (suc k)) (λ k l. h (suc k) (omega arith)), NatL.suc-mul n m)

pub total_most : (n : ℕ) (s : List ℤ) → n ≤ 1024 → ((k : ℕ) → k < n → nat_abs (get_or s k (pos 0)) ≤ 16383) → total n s ≤ 2 ^ 24
unfolding total
total_most n s h small =
    let a = sum_most n 16383 (λ k. nat_abs (get_or s k (pos 0))) small in
    let b : n * 16383 ≤ 1024 * 16383 = NatL.mul-le-mul_right 16383 h in
    omega arith

module _ (n : ℕ) (s : List ℤ) (all added : ℕ) (w : Weighed 0 n s all added) where
  pub each_most : (k : ℕ) → k < n → nat_abs (get_or s k (pos 0)) ≤ all
  each_most k h = let e : 0 + k ≡ k = omega arith in rw e at (w.each k h)

  pub added_is : n ≤ 1024 → all ≤ 16383 → added ≡ total n s
  unfolding total
  added_is h l =
      let f : ℕ → ℕ = λ k. nat_abs (get_or s k (pos 0)) in
      let e : sum n (λ k. nat_abs (get_or s (0 + k) (pos 0))) ≡ sum n f = sum_same n (λ k. nat_abs (get_or s (0 + k) (pos 0))) f (λ k q. ap f (omega arith)) in
      let m = sum_most n 16383 f (λ k q. omega (arith, each_most k q)) in
      let b : n * 16383 ≤ 1024 * 16383 = NatL.mul-le-mul_right 16383 h in
      rw (w.whole, e) (omega arith)

-- ---- the first number alone
pub abs_zero : (z : ℤ) → nat_abs z ≡ 0 → z ≡ pos 0
abs_zero (pos n) e = ap pos e
abs_zero (negsuc n) e = absurd (omega (arith, e))

pub total_first : (n : ℕ) (s : List ℤ) → total (suc n) s ≡ nat_abs (get_or s 0 (pos 0)) + sum n (λ k. nat_abs (get_or s (suc k) (pos 0)))
unfolding total sum
total_first n s = refl

pub first_alone : (n : ℕ) (s : List ℤ) → total n s ≡ nat_abs (get_or s 0 (pos 0)) → (k : ℕ) → 0 < k → k < n → get_or s k (pos 0) ≡ pos 0
first_alone n s e zero h l = absurd (omega arith)
first_alone zero s e (suc k) h l = absurd (omega arith)
first_alone (suc n) s e (suc k) h l =
    abs_zero (get_or s (suc k) (pos 0))
    (omega (arith, total_first n s, sum_one n k (λ k. nat_abs (get_or s (suc k) (pos 0))) (omega arith)))

-- ---- rows of zeros, a strip of eight more
pub dead_more : (t : List ℤ) (n0 s strips al ad : ℕ) → Weighed (8 * n0 * s) (8 * n0) t al ad → al ≡ 0
    → ((k : ℕ) → 8 * strips * n0 ≤ k → k < 8 * n0 * s → get_or t k (pos 0) ≡ pos 0)
    → (k : ℕ) → 8 * strips * n0 ≤ k → k < 8 * n0 * s + 8 * n0 → get_or t k (pos 0) ≡ pos 0
dead_more t n0 s strips al ad w e had k h l = go (dec_lt k (8 * n0 * s))
  where
    go : Dec (k < 8 * n0 * s) → get_or t k (pos 0) ≡ pos 0
    go (yes q) = had k h q
    go (no q) =
        let p : 8 * n0 * s + (k - 8 * n0 * s) ≡ k = omega arith in
        let a = rw p at (w.each (k - 8 * n0 * s) (omega arith)) in
        abs_zero (get_or t k (pos 0)) (omega (arith, a, e))

-- ---- the products, and the coefficients
sum_times : (n q : ℕ) (f : ℕ → ℕ) → sum n (λ k. f k * q) ≡ sum n f * q
unfolding sum
sum_times zero q f = sym (NatL.zero-mul q)
sum_times (suc n) q f = rw (sum_times n q (λ k. f (suc k))) (sym (NatL.add-mul (f 0) (sum n (λ k. f (suc k))) q))

sum_parts : (n d : ℕ) (f : ℕ → ℕ) → ((x : ℕ) → d * (x / d) ≤ x) → d * sum n (λ k. f k / d) ≤ sum n f
unfolding sum
sum_parts zero d f h = omega (arith, NatL.mul-zero d)
sum_parts (suc n) d f h = omega (arith, h (f 0), sum_parts n d (λ k. f (suc k)) h, NatL.mul-add d (f 0 / d) (sum n (λ k. f (suc k) / d)))

module _ (size : ℕ) (dc : DcQuant) (ac : AcQuant) (tokens : List ℤ) where
  pub product : ℕ → ℕ
  product k = nat_abs (get_or tokens k (pos 0)) * nat_abs (quantizer_at dc ac k)

  -- the first by DC, all others by AC
  pub products : (n : ℕ) → sum (suc n) product ≡ nat_abs (get_or tokens 0 (pos 0)) * nat_abs dc.0 + (total (suc n) tokens - nat_abs (get_or tokens 0 (pos 0))) * nat_abs ac.0
  unfolding sum product quantizer_at
  products n =
      let f : ℕ → ℕ = λ k. nat_abs (get_or tokens (suc k) (pos 0)) in
      let a : nat_abs (get_or tokens 0 (pos 0)) + sum n f - nat_abs (get_or tokens 0 (pos 0)) ≡ sum n f = omega arith in
      let g : ℕ → ℕ = λ k. f k * nat_abs (cond (eqb (suc k) 0) dc.0 ac.0) in
      let e : sum n g ≡ sum n (λ k. f k * nat_abs ac.0) = sum_same n g (λ k. f k * nat_abs ac.0) (λ k l. rw (ne_eqb (suc k) 0 (λ q. absurd (omega arith)))) in
      rw (total_first n tokens, a) (ap (λ (x : ℕ). nat_abs (get_or tokens 0 (pos 0)) * nat_abs dc.0 + x) (e ∙ sum_times n (nat_abs ac.0) f))

  module _ (bad_dc : bad_quantizer dc.0 ≡ false) (bad_ac : bad_quantizer ac.0 ≡ false) where
    at_fine : (k : ℕ) → bad_quantizer (quantizer_at dc ac k) ≡ false
    unfolding quantizer_at
    at_fine k = go (eqb k 0)
      where
        go : (b : Bool) → bad_quantizer (cond b dc.0 ac.0) ≡ false
        go true = bad_dc
        go false = bad_ac

    abs_dequant : (k : ℕ) (t : ℤ) → nat_abs (dequant size (quantizer_at dc ac k) t) ≡ nat_abs t * nat_abs (quantizer_at dc ac k) / dq_denom size
    abs_dequant k t =
        let q = quantizer_at dc ac k in
        ap nat_abs (ap (λ (x : ℤ). dequant size x t) (quantizer q (at_fine k)).is ∙ dequant_sign size (nat_abs q) t) ∙ abs_with_sign t (nat_abs t * nat_abs q / dq_denom size)

    -- a token of 0 has a coefficient of 0
    pub zero_token : (k : ℕ) → dequant size (quantizer_at dc ac k) (pos 0) ≡ pos 0
    zero_token k = abs_zero (dequant size (quantizer_at dc ac k) (pos 0)) (abs_dequant k (pos 0) ∙ rw (NatL.zero-mul (nat_abs (quantizer_at dc ac k))) (NatL.zero-div (dq_denom size)))

    module _ (m : ℕ) (all : length tokens ≡ suc m)
        (few : nat_abs (get_or tokens 0 (pos 0)) * nat_abs dc.0 + (total (length tokens) tokens - nat_abs (get_or tokens 0 (pos 0))) * nat_abs ac.0 ≤ 31883 * dq_denom size) where
      sum_few : sum (length tokens) product ≤ 31883 * dq_denom size
      sum_few = rw all (rw (sym (products m)) at (rw all at few))

      pub shorts : ((k : ℕ) → k < length tokens → nat_abs (get_or tokens k (pos 0)) ≤ 16383) → (k : ℕ) → k < length tokens → Short size (quantizer_at dc ac k) (get_or tokens k (pos 0))
      unfolding product
      shorts small k h =
          let a = sum_one (length tokens) k product h in
          let b : 31883 * dq_denom size ≤ 32767 * dq_denom size = NatL.mul-le-mul_right (dq_denom size) (lit≤ tt) in
          (omega (arith, small k h), NatL.le_trans a (NatL.le_trans sum_few b))

      pub coefs_few : total (length tokens) (dequant_all size dc ac tokens) ≤ 31883
      unfolding total dequant_all product
      coefs_few =
          let g : ℕ → ℕ = λ k. nat_abs (get_or tokens k (pos 0)) * nat_abs (quantizer_at dc ac k) / dq_denom size in
          let e = sum_same (length tokens) (λ k. nat_abs (get_or (tabulate (λ k. dequant size (quantizer_at dc ac k) (get_or tokens k (pos 0))) (length tokens)) k (pos 0))) g
          (λ k l. ap nat_abs (get_d_tabulate (λ k. dequant size (quantizer_at dc ac k) (get_or tokens k (pos 0))) (length tokens) k (pos 0) l) ∙ abs_dequant k (get_or tokens k (pos 0))) in
          rw e (go (eqb size 3) refl)
        where
          go : (b : Bool) → eqb size 3 ≡ b → sum (length tokens) (λ k. product k / dq_denom size) ≤ 31883
          go true e =
              let h = sum_parts (length tokens) 2 product (λ x. omega arith) in
              rw e (omega (arith, h, rw e at sum_few))
          go false e =
              let h = sum_parts (length tokens) 1 product (λ x. omega arith) in
              rw e (omega (arith, h, rw e at sum_few))
