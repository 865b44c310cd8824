-- The ADST and the WHT of four numbers, which are one step each: how far they reach, number by number.
use mathlib.Core.Path.{◌≡◌, sym, subst}
use mathlib.Core.List.{List, [], ◌∷◌}
use Prim.Native.Nat.{ℕ, zero, suc, ◌+◌, ◌*◌, ◌^◌, ◌≤◌, ◌<◌}
use native.Mathlib.Nat as NatL
use native.Mathlib.Omega.{arith}
use lib.IntN.{ℤ, pos, nat_abs, neg_ℤ, ◌+ℤ◌, ◌-ℤ◌, ◌*ℤ◌}
use lib.ListN.{length, get_or}
use lib.Pow.{pow_pos}
use lib.Signed.{shr_z}
use Rattle.whole.specs.Parts.{P, N}
use Rattle.whole.specs.Round.{Round2}
use Rattle.whole.specs.Within.{Within}
use Rattle.whole.proofs.Parts.{sum_parts, neg_P, neg_N, shr_low, shr_high}
use Rattle.whole.proofs.Ring.{E, at, ◌⊕◌, ◌⊖◌, ◌⊗◌, ring}
use Rattle.whole.proofs.Round.{round2_within}
use Rattle.whole.proofs.Within.{abs_bd, within_self, within_parts, within_add, within_sub, within_mul, within_shr}
use Rattle.steps.specs.Step.{adst4, wht4, halfway}
use Rattle.weights.specs.Inner.{sum, total}
use Rattle.weights.proofs.Steps.{Reaches}

-- ---- the ADST: of four weights the greatest is 15212
module _ (a b c d : ℤ) where
  abbrev all : ℕ
  all = nat_abs a + (nat_abs b + (nat_abs c + (nat_abs d + 0)))

  times : (k : ℕ) (z : ℤ) → Within (k * nat_abs z) (pos k *ℤ z)
  times k z = within_mul (within_self (pos k)) (within_self z)

  rounded : {m : ℕ} {z : ℤ} → m ≤ 15212 * all → Within m z → 16384 * nat_abs (Round2 z 14) ≤ 16411 * all + 386740
  rounded h w = omega (arith, abs_bd (round2_within 14 (omega arith) w))

  abbrev x0 : ℤ
  x0 = pos 5283 *ℤ a +ℤ pos 15212 *ℤ c +ℤ pos 9929 *ℤ d

  abbrev x1 : ℤ
  x1 = pos 9929 *ℤ a -ℤ pos 5283 *ℤ c -ℤ pos 15212 *ℤ d

  abbrev by : ℕ → ℤ → E
  by k z = at (pos k) ⊗ at z

  -- the last sum, whose parts take each other's place
  last_is : x0 +ℤ x1 -ℤ pos 13377 *ℤ b ≡ pos 15212 *ℤ a +ℤ pos 9929 *ℤ c -ℤ pos 5283 *ℤ d -ℤ pos 13377 *ℤ b
  last_is =
      ring ((by 5283 a ⊕ by 15212 c ⊕ by 9929 d) ⊕ (by 9929 a ⊖ by 5283 c ⊖ by 15212 d) ⊖ by 13377 b) (by 15212 a ⊕ by 9929 c ⊖ by 5283 d ⊖ by 13377 b) (omega arith)

  first_reach : 16384 * nat_abs (Round2 (x0 +ℤ pos 13377 *ℤ b) 14) ≤ 16411 * all + 386740
  first_reach = rounded (omega arith) (within_add (within_add (within_add (times 5283 a) (times 15212 c)) (times 9929 d)) (times 13377 b))

  second_reach : 16384 * nat_abs (Round2 (x1 +ℤ pos 13377 *ℤ b) 14) ≤ 16411 * all + 386740
  second_reach = rounded (omega arith) (within_add (within_sub (within_sub (times 9929 a) (times 5283 c)) (times 15212 d)) (times 13377 b))

  third_reach : 16384 * nat_abs (Round2 (pos 13377 *ℤ (a -ℤ c +ℤ d)) 14) ≤ 16411 * all + 386740
  third_reach = rounded (omega arith) (within_mul (within_self (pos 13377)) (within_add (within_sub (within_self a) (within_self c)) (within_self d)))

  last_reach : 16384 * nat_abs (Round2 (x0 +ℤ x1 -ℤ pos 13377 *ℤ b) 14) ≤ 16411 * all + 386740
  last_reach = rounded (omega arith) (subst (Within _) (sym last_is) (within_sub (within_sub (within_add (times 15212 a) (times 9929 c)) (times 5283 d)) (times 13377 b)))

pub adst4_reaches : (t : List ℤ) → 4 ≤ length t → Reaches 4 16411 386740 t (adst4 t)
unfolding adst4 total sum
adst4_reaches [] h = absurd (omega arith)
adst4_reaches (a ∷ []) h = absurd (omega arith)
adst4_reaches (a ∷ b ∷ []) h = absurd (omega arith)
adst4_reaches (a ∷ b ∷ c ∷ []) h = absurd (omega arith)
adst4_reaches (a ∷ b ∷ c ∷ d ∷ u) h = record { each = go }
  where
    go : (i : ℕ) → i < 4 → 16384 * nat_abs (get_or (adst4 (a ∷ b ∷ c ∷ d ∷ u)) i (pos 0)) ≤ 16411 * total 4 (a ∷ b ∷ c ∷ d ∷ u) + 386740
    go zero l = first_reach a b c d
    go (suc zero) l = second_reach a b c d
    go (suc (suc zero)) l = third_reach a b c d
    go (suc (suc (suc zero))) l = last_reach a b c d
    go (suc (suc (suc (suc i)))) l = absurd (omega arith)

-- ---- the WHT: half the sum and a rest
down : (k : ℕ) (z : ℤ) → Within (nat_abs z) (shr_z z (2 ^ k))
down k z =
    let w = within_self z in
    let p = pow_pos k in
    let q : nat_abs z * 1 ≤ nat_abs z * 2 ^ k = NatL.mul-le-mul_left (nat_abs z) p in
    within_shr (nat_abs z) (2 ^ k) z p (omega (arith, w.hi)) (omega (arith, w.lo))

module _ {A B C D : ℕ} {a c d b : ℤ} (ha : Within A a) (hc : Within C c) (hd : Within D d) (hb : Within B b) where
  abbrev s : ℤ
  s = (a +ℤ c) -ℤ (d -ℤ b)

  abbrev e : ℤ
  e = shr_z s 2

  abbrev most : ℕ
  most = A + C + D + B + 1

  minus : (x y : ℤ) → P (x -ℤ y) + (N x + P y) ≡ N (x -ℤ y) + (P x + N y)
  minus x y = let f = sum_parts x (neg_ℤ y) in let g = neg_P y in let h = neg_N y in omega arith

  -- what they are, in parts
  record Sums : Type 0 where
    p : P (a +ℤ c) + (N a + N c) ≡ N (a +ℤ c) + (P a + P c)
    q : P (d -ℤ b) + (N d + P b) ≡ N (d -ℤ b) + (P d + N b)
    r : P s + (N (a +ℤ c) + P (d -ℤ b)) ≡ N s + (P (a +ℤ c) + N (d -ℤ b))
    low : P e * 2 + N s ≤ P s + N e * 2
    high : P s + N e * 2 < P e * 2 + 2 + N s

  sums : Sums
  sums = record { p = sum_parts a c; q = minus d b; r = minus (a +ℤ c) (d -ℤ b); low = shr_low s 2 (omega arith); high = shr_high s 2 (omega arith) }

  within_b : Within most (e -ℤ b)
  within_b = let u = sums in let v = minus e b in within_parts most (e -ℤ b) (omega (arith, u.p, u.q, u.r, u.low, u.high, ha.hi, ha.lo, hb.hi, hb.lo, hc.hi, hc.lo, hd.hi, hd.lo)) (omega (arith, u.p, u.q, u.r, u.low, u.high, ha.hi, ha.lo, hb.hi, hb.lo, hc.hi, hc.lo, hd.hi, hd.lo))

  within_c : Within most (e -ℤ c)
  within_c = let u = sums in let v = minus e c in within_parts most (e -ℤ c) (omega (arith, u.p, u.q, u.r, u.low, u.high, ha.hi, ha.lo, hb.hi, hb.lo, hc.hi, hc.lo, hd.hi, hd.lo)) (omega (arith, u.p, u.q, u.r, u.low, u.high, ha.hi, ha.lo, hb.hi, hb.lo, hc.hi, hc.lo, hd.hi, hd.lo))

  within_a : Within most ((a +ℤ c) -ℤ (e -ℤ b))
  within_a = let u = sums in let v = minus e b in let w = minus (a +ℤ c) (e -ℤ b) in within_parts most ((a +ℤ c) -ℤ (e -ℤ b)) (omega (arith, u.p, u.q, u.r, u.low, u.high, ha.hi, ha.lo, hb.hi, hb.lo, hc.hi, hc.lo, hd.hi, hd.lo)) (omega (arith, u.p, u.q, u.r, u.low, u.high, ha.hi, ha.lo, hb.hi, hb.lo, hc.hi, hc.lo, hd.hi, hd.lo))

  within_d : Within most ((d -ℤ b) +ℤ (e -ℤ c))
  within_d = let u = sums in let v = minus e c in let w = sum_parts (d -ℤ b) (e -ℤ c) in within_parts most ((d -ℤ b) +ℤ (e -ℤ c)) (omega (arith, u.p, u.q, u.r, u.low, u.high, ha.hi, ha.lo, hb.hi, hb.lo, hc.hi, hc.lo, hd.hi, hd.lo)) (omega (arith, u.p, u.q, u.r, u.low, u.high, ha.hi, ha.lo, hb.hi, hb.lo, hc.hi, hc.lo, hd.hi, hd.lo))

pub wht4_reaches : (k : ℕ) (t : List ℤ) → 4 ≤ length t → Reaches 4 16411 386740 t (wht4 k t)
unfolding wht4 halfway total sum
wht4_reaches k [] h = absurd (omega arith)
wht4_reaches k (a ∷ []) h = absurd (omega arith)
wht4_reaches k (a ∷ b ∷ []) h = absurd (omega arith)
wht4_reaches k (a ∷ b ∷ c ∷ []) h = absurd (omega arith)
wht4_reaches k (a ∷ c ∷ d ∷ b ∷ u) h = record { each = go }
  where
    go : (i : ℕ) → i < 4 → 16384 * nat_abs (get_or (wht4 k (a ∷ c ∷ d ∷ b ∷ u)) i (pos 0)) ≤ 16411 * total 4 (a ∷ c ∷ d ∷ b ∷ u) + 386740
    go zero l = omega (arith, abs_bd (within_a (down k a) (down k c) (down k d) (down k b)))
    go (suc zero) l = omega (arith, abs_bd (within_b (down k a) (down k c) (down k d) (down k b)))
    go (suc (suc zero)) l = omega (arith, abs_bd (within_c (down k a) (down k c) (down k d) (down k b)))
    go (suc (suc (suc zero))) l = omega (arith, abs_bd (within_d (down k a) (down k c) (down k d) (down k b)))
    go (suc (suc (suc (suc i)))) l = absurd (omega arith)
