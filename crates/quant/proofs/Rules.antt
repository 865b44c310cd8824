-- The two rules beside each other: where they part, and what rule 2 takes of two that are equally near.
use mathlib.Core.Path.{◌≡◌, refl, sym, ap, ◌∙◌}
use mathlib.Core.Bool.{false}
use Prim.Native.Nat.{ℕ, zero, suc, min, ◌+◌, ◌-◌, ◌*◌, ◌/◌, ◌≤◌, ◌<◌}
use native.Mathlib.Nat as NatL
use native.Mathlib.Decide.{dec_lt}
use native.Mathlib.Omega.{arith}
use borrow.Author.Tests.{ne_eqb}
use lib.Dec.{eqb}
use lib.IntN.{ℤ, pos, negsuc, nat_abs}
use Rattle.answers.specs.Bad.{bad_quantizer}
use Rattle.answers.proofs.Passed.{quantizer}
use Rattle.quant.specs.Token.{dq_denom, rounded, with_sign, quantize}
use Rattle.quant.specs.Choice.{distance, Nearest, Greatest, Half}
use Rattle.quant.proofs.Floor.{Floor, floor, floor_is, rounded_is}
use Rattle.quant.proofs.Bracket.{gap, Bracket, Away, bracket, away, farther_above}
use Rattle.quant.proofs.Sign.{abs_with_sign, dequant_sign}
use Rattle.quant.proofs.Nearness.{bracket_nearest, distance_own, distance_any, across_pos, across_neg}

-- ---- where they part, on magnitudes
-- at an exact half rule 1 takes t, and rule 2 takes t + 1
half_1 : (q x t : ℕ) → 0 < q → 2 * x ≡ (2 * t + 1) * q → rounded 1 q x ≡ t
half_1 q x t p e = rounded_is 1 q x t (record { low = omega arith; high = omega arith })

half_2 : (q x t : ℕ) → 0 < q → 2 * x ≡ (2 * t + 1) * q → rounded 2 q x ≡ suc t
half_2 q x t p e = rounded_is 2 q x (suc t) (record { low = omega arith; high = omega arith })

-- and else they agree: a step between the two is a half
agree : (q most x : ℕ) → 0 < q → ((t : ℕ) → t < most → 2 * x ≡ (2 * t + 1) * q → ⊥) → min most (rounded 2 q x) ≡ min most (rounded 1 q x)
unfolding rounded
agree q most x p h =
    go ((2 * x + (q - 1)) / (2 * q)) ((2 * x + (q - 0)) / (2 * q)) (floor (2 * x + (q - 1)) (2 * q) (omega arith)) (floor (2 * x + (q - 0)) (2 * q) (omega arith))
    (dec_lt _ _) (dec_lt _ _)
  where
    cut : (t : ℕ) → 2 * x ≡ (2 * t + 1) * q → Dec (t < most) → min most (suc t) ≡ min most t
    cut t e (yes l) = absurd (h t l e)
    cut t e (no l) = omega arith

    go : (f g : ℕ) → Floor (2 * x + (q - 1)) (2 * q) f → Floor (2 * x + (q - 0)) (2 * q) g → Dec (f < g) → Dec (g < f) → min most g ≡ min most f
    go f g u v (yes l) d =
        let k = NatL.mul-le-mul_right (2 * q) l in
        let i : Floor (2 * x + (q - 0)) (2 * q) (suc f) = record { low = omega (arith, v.low); high = omega (arith, u.high) } in
        let e : g ≡ suc f = sym (floor_is (2 * x + (q - 0)) (2 * q) g v) ∙ floor_is (2 * x + (q - 0)) (2 * q) (suc f) i in
        rw e (cut f (omega (arith, u.high, v.low)) (dec_lt f most))
    go f g u v (no l) (yes k) = absurd (omega (arith, NatL.mul-le-mul_right (2 * q) k, u.low, v.high))
    go f g u v (no l) (no k) = omega arith

-- THE RULES PART AT EXACT HALVES, and there by one: rule 1 takes the smaller magnitude and rule 2 the greater, if that is codeable
module _ (size most : ℕ) (q coef : ℤ) (h : bad_quantizer q ≡ false) where
  pub rule_1_half : (t : ℕ) → Half size q coef t → t < most → quantize 1 size most q coef ≡ with_sign coef t
  unfolding quantize
  rule_1_half t e l =
      let k = half_1 (nat_abs q) (nat_abs coef * dq_denom size) t (quantizer q h).least e in
      let i : min most t ≡ t = omega arith in
      ap (with_sign coef) (ap (min most) k ∙ i)

  pub rule_2_half : (t : ℕ) → Half size q coef t → t < most → quantize 2 size most q coef ≡ with_sign coef (suc t)
  unfolding quantize
  rule_2_half t e l =
      let k = half_2 (nat_abs q) (nat_abs coef * dq_denom size) t (quantizer q h).least e in
      let i : min most (suc t) ≡ suc t = omega arith in
      ap (with_sign coef) (ap (min most) k ∙ i)

  -- AND NOWHERE ELSE
  pub rules_agree : ((t : ℕ) → t < most → Half size q coef t → ⊥) → quantize 2 size most q coef ≡ quantize 1 size most q coef
  unfolding quantize
  rules_agree k = ap (with_sign coef) (agree (nat_abs q) most (nat_abs coef * dq_denom size) (quantizer q h).least k)

-- ---- at the small sizes the token that rule 2 chooses is the greatest of the nearest
module _ (size most n : ℕ) (s : eqb size 3 ≡ false) (p : 0 < n) where
  own : (coef : ℤ) (m : ℕ) → distance size (pos n) coef (with_sign coef m) ≡ gap (nat_abs coef) (m * n)
  own coef m = rw (s, NatL.div-one (m * n)) at (distance_own size n coef m)

  any : (coef token : ℤ) → gap (nat_abs coef) (nat_abs token * n) ≤ distance size (pos n) coef token
  any coef token = rw (s, NatL.div-one (nat_abs token * n)) at (distance_any size n coef token)

  -- a token of the other side is no nearest one, but for 0
  beyond : (coef token : ℤ) (m : ℕ) → Nearest size most (pos n) coef token → distance size (pos n) coef token ≡ nat_abs coef + suc m * n / dq_denom size → ⊥
  beyond coef token m h e =
      let k : nat_abs (with_sign coef 0) ≤ most = rw (abs_with_sign coef 0) (omega arith) in
      let f : distance size (pos n) coef token ≡ nat_abs coef + suc m * n = rw (s, NatL.div-one (suc m * n)) at e in
      absurd (omega (arith, own coef 0, h.near (with_sign coef 0) k))

  own_side : (coef token : ℤ) → Nearest size most (pos n) coef token → token ≡ with_sign coef (nat_abs token)
  unfolding distance
  own_side (pos a) (pos b) h = refl
  own_side (negsuc a) (negsuc b) h = refl
  own_side (negsuc a) (pos zero) h = refl
  own_side (pos a) (negsuc b) h = absurd (beyond (pos a) (negsuc b) b h (rw (dequant_sign size n (negsuc b)) (across_pos a _)))
  own_side (negsuc a) (pos (suc b)) h = absurd (beyond (negsuc a) (pos (suc b)) b h (rw (dequant_sign size n (pos (suc b))) (across_neg a _)))

  greatest_one : (coef t u : ℤ) → Greatest size most (pos n) coef t → Greatest size most (pos n) coef u → t ≡ u
  greatest_one coef t u x y =
      let e = NatL.le_antisymm (x.nearest.near u y.nearest.coded) (y.nearest.near t x.nearest.coded) in
      let f : nat_abs t ≡ nat_abs u = NatL.le_antisymm (y.greatest t x.nearest.coded e) (x.greatest u y.nearest.coded (sym e)) in
      own_side coef t x.nearest ∙ ap (with_sign coef) f ∙ sym (own_side coef u y.nearest)

  module _ (coef : ℤ) (t : ℕ) (w : Away n most (nat_abs coef) t) where
    greater : (other : ℤ) → nat_abs other ≤ most → distance size (pos n) coef other ≡ distance size (pos n) coef (with_sign coef t) → Dec (t < nat_abs other)
        → nat_abs other ≤ nat_abs (with_sign coef t)
    greater other l e (yes k) = absurd (omega (arith, own coef t, any coef other, farther_above n most (nat_abs coef) t (nat_abs other) p w l k))
    greater other l e (no k) = rw (abs_with_sign coef t) (omega arith)

    bracket_greatest : Bracket n most (nat_abs coef * dq_denom size) t → Greatest size most (pos n) coef (with_sign coef t)
    bracket_greatest b =
        record { nearest = bracket_nearest size most n coef t b; greatest = λ other l e. greater other l e (dec_lt t (nat_abs other)) }

-- UNDER RULE 2 AT THE SMALL SIZES THE TOKEN CHOSEN IS THE GREATEST OF THE NEAREST, whatever the cap
pub quantize_greatest : (size most : ℕ) (q coef : ℤ) → (size ≡ 3 → ⊥) → bad_quantizer q ≡ false → Greatest size most q coef (quantize 2 size most q coef)
unfolding quantize rounded
quantize_greatest size most q coef i h =
    let g = quantizer q h in
    let n = nat_abs q in
    let a = nat_abs coef in
    let s = ne_eqb size 3 i in
    let e : a * dq_denom size ≡ a = rw s (NatL.mul-one a) in
    rw g.is (bracket_greatest size most n s g.least coef _ (rw e (away n most a g.least)) (bracket 0 n most (a * dq_denom size) (omega arith) g.least))

-- AND NOTHING ELSE IS
pub only_greatest : (size most : ℕ) (q coef token : ℤ) → (size ≡ 3 → ⊥) → bad_quantizer q ≡ false → Greatest size most q coef token → token ≡ quantize 2 size most q coef
only_greatest size most q coef token i h x =
    let g = quantizer q h in
    let e = sym g.is in
    greatest_one size most (nat_abs q) (ne_eqb size 3 i) g.least coef token _ (rw e x) (rw e (quantize_greatest size most q coef i h))
