-- The token that the quantizer chooses is codeable and nearest under every rule; under rule 1 it is of those equally near the smallest, and nothing else is.
use mathlib.Core.Path.{◌≡◌, refl, sym, ap, ◌∙◌}
use mathlib.Core.Bool.{Bool, true, false, cond}
use Prim.Native.Nat.{ℕ, zero, suc, ◌+◌, ◌-◌, ◌*◌, ◌/◌, ◌%◌, ◌^◌, ◌≤◌, ◌<◌}
use native.Mathlib.Nat as NatL
use native.Mathlib.Decide.{dec_lt}
use native.Mathlib.Omega.{arith}
use borrow.Author.Tests.{eqb-true}
use lib.Dec.{eqb}
use lib.IntN.{ℤ, pos, negsuc, neg_ℤ, nat_abs, ◌-ℤ◌}
use Rattle.whole.specs.Parts.{P, N}
use Rattle.whole.proofs.Parts.{apart, abs_parts, sum_parts, neg_P, neg_N}
use Rattle.answers.specs.Bad.{bad_quantizer}
use Rattle.answers.specs.Limits.{is_depth, codeable}
use Rattle.answers.proofs.Passed.{quantizer}
use Rattle.quant.specs.Token.{dq_denom, dequant, short, rounded, with_sign, quantize}
use Rattle.quant.specs.Choice.{distance, Nearest, Least}
use Rattle.quant.proofs.Floor.{short_most}
use Rattle.quant.proofs.Bracket.{gap, Bracket, Toward, bracket, toward, nearer, farther, even_choice}
use Rattle.quant.proofs.Sign.{abs_with_sign, dequant_sign}

-- ---- signs
-- how far two numbers are apart, by the parts
difference : (z w : ℤ) → nat_abs (z -ℤ w) ≡ gap (P z + N w) (P w + N z)
difference z w = omega (arith, abs_parts (z -ℤ w), sum_parts z (neg_ℤ w), apart (z -ℤ w), neg_P w, neg_N w)

-- on one side as far as their magnitudes, else no less
one_side : (z : ℤ) (m : ℕ) → nat_abs (z -ℤ with_sign z m) ≡ gap (nat_abs z) m
one_side (pos a) m = omega (arith, difference (pos a) (pos m))
one_side (negsuc a) m = omega (arith, difference (negsuc a) (neg_ℤ (pos m)), neg_P (pos m), neg_N (pos m))

any_side : (z w : ℤ) → gap (nat_abs z) (nat_abs w) ≤ nat_abs (z -ℤ w)
any_side z w = omega (arith, difference z w, abs_parts z, abs_parts w, apart z, apart w)

-- on two sides as far as their magnitudes together
pub across_pos : (a v : ℕ) → nat_abs (pos a -ℤ neg_ℤ (pos v)) ≡ a + v
across_pos a v = omega (arith, difference (pos a) (neg_ℤ (pos v)), neg_P (pos v), neg_N (pos v))

pub across_neg : (a v : ℕ) → nat_abs (negsuc a -ℤ pos v) ≡ suc a + v
across_neg a v = omega (arith, difference (negsuc a) (pos v))

-- the same of a token's value
dequant_abs : (size n : ℕ) (t : ℤ) → nat_abs (dequant size (pos n) t) ≡ nat_abs t * n / dq_denom size
dequant_abs size n t = ap nat_abs (dequant_sign size n t) ∙ abs_with_sign t (nat_abs t * n / dq_denom size)

dequant_zero : (size n : ℕ) → 0 * n / dq_denom size ≡ 0
dequant_zero size n = ap (λ (x : ℕ). x / dq_denom size) (NatL.zero-mul n) ∙ NatL.zero-div (dq_denom size)

dequant_with : (size n : ℕ) (z : ℤ) (m : ℕ) → dequant size (pos n) (with_sign z m) ≡ with_sign z (m * n / dq_denom size)
dequant_with size n (pos a) m = dequant_sign size n (pos m)
dequant_with size n (negsuc a) zero = dequant_sign size n (pos 0) ∙ rw (dequant_zero size n) refl
dequant_with size n (negsuc a) (suc m) = dequant_sign size n (negsuc m)

module _ (size n : ℕ) where
  pub distance_own : (coef : ℤ) (m : ℕ) → distance size (pos n) coef (with_sign coef m) ≡ gap (nat_abs coef) (m * n / dq_denom size)
  unfolding distance
  distance_own coef m = rw (dequant_with size n coef m) (one_side coef (m * n / dq_denom size))

  pub distance_any : (coef token : ℤ) → gap (nat_abs coef) (nat_abs token * n / dq_denom size) ≤ distance size (pos n) coef token
  unfolding distance
  distance_any coef token = rw (dequant_abs size n token) at (any_side coef (dequant size (pos n) token))

-- ---- what brackets is nearest, and what goes toward zero is the least of these
module _ (size most n : ℕ) (coef : ℤ) (t : ℕ) (b : Bracket n most (nat_abs coef * dq_denom size) t) where
  pub bracket_nearest : Nearest size most (pos n) coef (with_sign coef t)
  bracket_nearest =
      record {
        coded = rw (abs_with_sign coef t) b.coded;
        near = λ other l. omega (arith, distance_own size n coef t, distance_any size n coef other, nearer (eqb size 3) n most (nat_abs coef) t (nat_abs other) b l);
      }

  module _ (p : 0 < n) (w : Toward n (nat_abs coef * dq_denom size) t) (v : eqb size 3 ≡ true → n ≡ 1 → t % 2 ≡ 0) where
    smaller : (other : ℤ) → nat_abs other ≤ most → distance size (pos n) coef other ≡ distance size (pos n) coef (with_sign coef t) → Dec (nat_abs other < t)
        → nat_abs (with_sign coef t) ≤ nat_abs other
    smaller other l e (yes k) =
        absurd (omega (arith, distance_own size n coef t, distance_any size n coef other, farther (eqb size 3) n (nat_abs coef) t (nat_abs other) p w v k))
    smaller other l e (no k) = rw (abs_with_sign coef t) (omega arith)

    pub bracket_least : Least size most (pos n) coef (with_sign coef t)
    bracket_least = record { nearest = bracket_nearest; least = λ other l e. smaller other l e (dec_lt (nat_abs other) t) }

-- ---- there is but one
module _ (size most n : ℕ) where
  -- a token of the other side is no nearer than 0, so it is none of the least but 0 itself
  beyond : (coef token : ℤ) → Least size most (pos n) coef token → distance size (pos n) coef token ≡ nat_abs coef + nat_abs token * n / dq_denom size → nat_abs token ≡ 0
  beyond coef token h e =
      let z = dequant_zero size n in
      let f : distance size (pos n) coef (with_sign coef 0) ≡ nat_abs coef = distance_own size n coef 0 ∙ omega arith in
      let k : nat_abs (with_sign coef 0) ≤ most = rw (abs_with_sign coef 0) (omega arith) in
      let l = h.nearest.near (with_sign coef 0) k in
      omega (arith, abs_with_sign coef 0, h.least (with_sign coef 0) k (omega arith))

  -- so the least has the coefficient's sign
  pub own_side : (coef token : ℤ) → Least size most (pos n) coef token → token ≡ with_sign coef (nat_abs token)
  unfolding distance
  own_side (pos a) (pos b) h = refl
  own_side (negsuc a) (negsuc b) h = refl
  own_side (negsuc a) (pos zero) h = refl
  own_side (pos a) (negsuc b) h = absurd (omega (arith, beyond (pos a) (negsuc b) h (rw (dequant_sign size n (negsuc b)) (across_pos a _))))
  own_side (negsuc a) (pos (suc b)) h = absurd (omega (arith, beyond (negsuc a) (pos (suc b)) h (rw (dequant_sign size n (pos (suc b))) (across_neg a _))))

-- two that are least have one distance, so one magnitude, and so are one
pub least_one : (size most n : ℕ) (coef t u : ℤ) → Least size most (pos n) coef t → Least size most (pos n) coef u → t ≡ u
least_one size most n coef t u x y =
    let e = NatL.le_antisymm (x.nearest.near u y.nearest.coded) (y.nearest.near t x.nearest.coded) in
    let f : nat_abs t ≡ nat_abs u = NatL.le_antisymm (x.least u y.nearest.coded (sym e)) (y.least t x.nearest.coded e) in
    own_side size most n coef t x ∙ ap (with_sign coef) f ∙ sym (own_side size most n coef u y)

-- ---- the quantizer
-- every codeable limit is even: 67 − 1, and a power of 2
codeable_even : (depth : ℕ) → codeable depth % 2 ≡ 0
codeable_even depth = go (is_depth depth)
  where
    go : (b : Bool) → cond b (67 + 2 ^ (6 + depth) - 1) 0 % 2 ≡ 0
    go true = let e : 6 + depth ≡ suc (5 + depth) = omega arith in rw e (omega (arith, NatL.pow-suc 2 (5 + depth)))
    go false = refl

-- THE TOKEN CHOSEN IS NEAREST, under every rule, whatever the cap and however great the coefficient
pub quantize_nearest : (rule size most : ℕ) (q coef : ℤ) → bad_quantizer q ≡ false → Nearest size most q coef (quantize rule size most q coef)
unfolding quantize rounded
quantize_nearest rule size most q coef h =
    let g = quantizer q h in
    let n = nat_abs q in
    rw g.is (bracket_nearest size most n coef _ (bracket (short rule) n most (nat_abs coef * dq_denom size) (short_most rule) g.least))

-- AND UNDER RULE 1 THE LEAST OF THE NEAREST, whatever the cap, but that under quantizer 1 at 32 by 32 it has to be even
pub quantize_least_cap : (size most : ℕ) (q coef : ℤ) → bad_quantizer q ≡ false → (size ≡ 3 → nat_abs q ≡ 1 → most % 2 ≡ 0) → Least size most q coef (quantize 1 size most q coef)
unfolding quantize rounded
quantize_least_cap size most q coef h e =
    let g = quantizer q h in
    let n = nat_abs q in
    let x = nat_abs coef * dq_denom size in
    rw g.is (bracket_least size most n coef _ (bracket 1 n most x (omega arith) g.least) g.least (toward n most x g.least)
    (λ f k. rw (f, k) (even_choice most (nat_abs coef) (e (eqb-true size 3 f) k))))

-- which all codeable limits are
pub quantize_least : (size depth : ℕ) (q coef : ℤ) → bad_quantizer q ≡ false → Least size (codeable depth) q coef (quantize 1 size (codeable depth) q coef)
quantize_least size depth q coef h = quantize_least_cap size (codeable depth) q coef h (λ _ _. codeable_even depth)

-- WHATEVER IS THE LEAST OF THE NEAREST IS THE TOKEN CHOSEN UNDER RULE 1: the formula is a consequence
pub only_least : (size depth : ℕ) (q coef token : ℤ) → bad_quantizer q ≡ false → Least size (codeable depth) q coef token → token ≡ quantize 1 size (codeable depth) q coef
only_least size depth q coef token h x =
    let e = sym (quantizer q h).is in
    least_one size (codeable depth) (nat_abs q) coef token _ (rw e x) (rw e (quantize_least size depth q coef h))
