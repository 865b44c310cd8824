-- The ADST and the WHT of four numbers: what the code's sums come to, and how far they reach.
use mathlib.Core.Path.{◌≡◌, refl, sym, ap, subst, ◌∙◌}
use mathlib.Core.Bool.{Bool, true, false, not, ◌&&◌}
use mathlib.Core.List.{List, [], ◌∷◌}
use Prim.Native.Nat.{ℕ, ◌*◌, ◌^◌, ◌≤◌}
use native.Mathlib.Nat as NatL
use native.Mathlib.Omega.{arith}
use lib.Dec.{lit≤, lit<}
use lib.IntN.{ℤ, pos, ◌+ℤ◌, ◌-ℤ◌, ◌*ℤ◌}
use lib.ListN.{length, set}
use lib.Pow.{pow_pos}
use lib.Signed.{shr_z}
use mir.Syntax.{w32}
use Rattle.whole.specs.Round.{Round2}
use Rattle.whole.specs.Within.{Within}
use Rattle.whole.proofs.Ring.{E, at, ◌⊕◌, ◌⊖◌, ◌⊗◌, ring}
use Rattle.whole.proofs.Signed.{rd, Is, is_in, is_rd, add, sub, shr}
use Rattle.whole.proofs.Within.{within_self, within_le, within_add, within_sub, within_mul, within_shr}
use Rattle.steps.specs.Step.{halfway}
use Rattle.primitives.specs.Rotations.{set_pair}
use Rattle.narrow.specs.Kept.{short, shorts}
use Rattle.narrow.specs.Inner.{short_pair}
use Rattle.narrow.proofs.Kept.{and_yes}
use Rattle.tested.proofs.Answers.{stops, failed, passed}

-- ---- four numbers stored, by two stores of two
abbrev pub set_four : List ℤ → ℤ → ℤ → ℤ → ℤ → List ℤ
set_four t x y z w = set (set (set (set t 0 x) 1 y) 2 z) 3 w

and_false : (q : Bool) → q && false ≡ false
and_false true = refl
and_false false = refl

and_four : (p q r s : Bool) → s && (r && (q && (p && true))) ≡ (p && q) && (r && s)
and_four true true true s = and_yes s
and_four true true false true = refl
and_four true true false false = refl
and_four true false true true = refl
and_four true false true false = refl
and_four true false false true = refl
and_four true false false false = refl
and_four false q true true = and_false q
and_four false q true false = refl
and_four false q false true = refl
and_four false q false false = refl

four_shorts : (t : List ℤ) → 4 ≤ length t → (x y z w : ℤ) → shorts 4 (set_four t x y z w) ≡ short_pair x y && short_pair z w
unfolding shorts short_pair
four_shorts [] h x y z w = absurd (omega arith)
four_shorts (a ∷ []) h x y z w = absurd (omega arith)
four_shorts (a ∷ b ∷ []) h x y z w = absurd (omega arith)
four_shorts (a ∷ b ∷ c ∷ []) h x y z w = absurd (omega arith)
four_shorts (a ∷ b ∷ c ∷ d ∷ u) h x y z w = and_four (short x) (short y) (short z) (short w)

module _ (t : List ℤ) (h : 4 ≤ length t) (x y z w : ℤ) {r : Bool} (e : r ≡ short_pair x y) where
  -- the first store failed
  pub four_stops : {u v : List ℤ} → not r ≡ true → (false ≡ shorts 4 (set_four t x y z w)) × (false ≡ true → u ≡ v)
  four_stops n = stops (four_shorts t h x y z w ∙ rw (failed e n))

  -- it passed
  pub four_told : {q : Bool} {u v : List ℤ} → not r ≡ false → u ≡ set_pair t 0 1 x y false
      → (q ≡ short_pair z w) × (q ≡ true → v ≡ set_pair u 2 3 z w false) → (q ≡ shorts 4 (set_four t x y z w)) × (q ≡ true → v ≡ set_four t x y z w)
  unfolding set_pair
  four_told n p o = (o.0 ∙ sym (four_shorts t h x y z w ∙ rw (passed e n)), λ k. o.1 k ∙ rw p)

pub same_four : (f : ℤ → ℤ → ℤ → ℤ → ℤ) {a b c d a' b' c' d' : ℤ} → a ≡ a' → b ≡ b' → c ≡ c' → d ≡ d' → f a b c d ≡ f a' b' c' d'
same_four f p q r s = rw (p, q, r, s)

-- ---- the results as the definitions have them
module _ (a b c d : ℤ) where
  abbrev pub adst0 : ℤ
  adst0 = Round2 (pos 5283 *ℤ a +ℤ pos 15212 *ℤ c +ℤ pos 9929 *ℤ d +ℤ pos 13377 *ℤ b) 14

  abbrev pub adst1 : ℤ
  adst1 = Round2 (pos 9929 *ℤ a -ℤ pos 5283 *ℤ c -ℤ pos 15212 *ℤ d +ℤ pos 13377 *ℤ b) 14

  abbrev pub adst2 : ℤ
  adst2 = Round2 (pos 13377 *ℤ (a -ℤ c +ℤ d)) 14

  abbrev pub adst3 : ℤ
  adst3 = Round2 ((pos 5283 *ℤ a +ℤ pos 15212 *ℤ c +ℤ pos 9929 *ℤ d) +ℤ (pos 9929 *ℤ a -ℤ pos 5283 *ℤ c -ℤ pos 15212 *ℤ d) -ℤ pos 13377 *ℤ b) 14

module _ (a c d b : ℤ) where
  abbrev pub wht0 : ℤ
  wht0 = (a +ℤ c) -ℤ (halfway a c d b -ℤ b)

  abbrev pub wht1 : ℤ
  wht1 = halfway a c d b -ℤ b

  abbrev pub wht2 : ℤ
  wht2 = halfway a c d b -ℤ c

  abbrev pub wht3 : ℤ
  wht3 = (d -ℤ b) +ℤ (halfway a c d b -ℤ c)

-- ---- the ADST
abbrev by : ℕ → E → E
by n e = at (pos n) ⊗ e

module _ (a b c d : ℤ) where
  abbrev pub sum0 : ℤ
  sum0 = pos 5283 *ℤ (a +ℤ c) +ℤ pos 9929 *ℤ (c +ℤ d)

  abbrev pub sum1 : ℤ
  sum1 = pos 9929 *ℤ (a -ℤ d) -ℤ pos 5283 *ℤ (c +ℤ d)

  pub sum0_is : sum0 ≡ pos 5283 *ℤ a +ℤ pos 15212 *ℤ c +ℤ pos 9929 *ℤ d
  sum0_is = ring (by 5283 (at a ⊕ at c) ⊕ by 9929 (at c ⊕ at d)) (by 5283 (at a) ⊕ by 15212 (at c) ⊕ by 9929 (at d)) (omega arith)

  pub sum1_is : sum1 ≡ pos 9929 *ℤ a -ℤ pos 5283 *ℤ c -ℤ pos 15212 *ℤ d
  sum1_is = ring (by 9929 (at a ⊖ at d) ⊖ by 5283 (at c ⊕ at d)) (by 9929 (at a) ⊖ by 5283 (at c) ⊖ by 15212 (at d)) (omega arith)

  -- the last sum is shorter than its parts
  shorter : sum0 +ℤ sum1 -ℤ pos 13377 *ℤ b ≡ pos 15212 *ℤ a +ℤ pos 9929 *ℤ c -ℤ pos 5283 *ℤ d -ℤ pos 13377 *ℤ b
  shorter =
      ring ((by 5283 (at a ⊕ at c) ⊕ by 9929 (at c ⊕ at d)) ⊕ (by 9929 (at a ⊖ at d) ⊖ by 5283 (at c ⊕ at d)) ⊖ by 13377 (at b))
      (by 15212 (at a) ⊕ by 9929 (at c) ⊖ by 5283 (at d) ⊖ by 13377 (at b)) (omega arith)

  pub last_within : Within 32768 a → Within 32768 b → Within 32768 c → Within 32768 d → Within 2147475455 (sum0 +ℤ sum1 -ℤ pos 13377 *ℤ b)
  last_within p q r s =
      subst (Within 2147475455) (sym shorter)
      (within_le (lit≤ tt) (within_sub (within_sub (within_add (within_mul (within_self (pos 15212)) p) (within_mul (within_self (pos 9929)) r)) (within_mul (within_self (pos 5283)) s)) (within_mul (within_self (pos 13377)) q)))

-- ---- the WHT: a floor shift does not widen
within_down : (k : ℕ) {m : ℕ} {z : ℤ} → Within m z → Within m (shr_z z (2 ^ k))
within_down k {m} {z} b =
    let p = pow_pos k in
    let q : m * 1 ≤ m * 2 ^ k = NatL.mul-le-mul_left m p in
    within_shr m (2 ^ k) z p (omega arith) (omega arith)

module _ (k : ℕ) {x0 x1 x2 x3 : ℤ} (h0 : Within 32768 x0) (h1 : Within 32768 x1) (h2 : Within 32768 x2) (h3 : Within 32768 x3) where
  -- after the shift by k: as the definition has them, and as the code reads them
  abbrev a : ℤ
  a = shr_z (x0) (2 ^ k)

  abbrev c : ℤ
  c = shr_z (x1) (2 ^ k)

  abbrev d : ℤ
  d = shr_z (x2) (2 ^ k)

  abbrev b : ℤ
  b = shr_z (x3) (2 ^ k)

  down : {z : ℤ} → Within 32768 z → Is 32768 (rd w32 (shr_z (rd w32 z) (2 ^ k))) (shr_z z (2 ^ k))
  down w = let i = is_in w32 (lit< tt) w in is_rd w32 (lit< tt) (record { eq = ap (λ (z : ℤ). shr_z z (2 ^ k)) i.eq; bd = within_down k w })

  abbrev ra : ℤ
  ra = rd w32 (shr_z (rd w32 (x0)) (2 ^ k))

  abbrev rc : ℤ
  rc = rd w32 (shr_z (rd w32 (x1)) (2 ^ k))

  abbrev rd' : ℤ
  rd' = rd w32 (shr_z (rd w32 (x2)) (2 ^ k))

  abbrev rb : ℤ
  rb = rd w32 (shr_z (rd w32 (x3)) (2 ^ k))

  abbrev rp : ℤ
  rp = rd w32 (ra +ℤ rc)

  abbrev rq : ℤ
  rq = rd w32 (rd' -ℤ rb)

  abbrev re : ℤ
  re = rd w32 (shr_z (rd w32 (rp -ℤ rq)) 2)

  -- a + c, d − b, their difference, e
  pub p_is : Is 65536 (ra +ℤ rc) (a +ℤ c)
  p_is = add (down h0) (down h1)

  pub q_is : Is 65536 (rd' -ℤ rb) (d -ℤ b)
  q_is = sub (down h2) (down h3)

  pub s_is : Is 131072 (rp -ℤ rq) ((a +ℤ c) -ℤ (d -ℤ b))
  s_is = sub (is_rd w32 (lit< tt) p_is) (is_rd w32 (lit< tt) q_is)

  pub e_is : Is 65536 (shr_z (rd w32 (rp -ℤ rq)) 2) (halfway a c d b)
  unfolding halfway
  e_is = shr 65536 2 (omega arith) (is_rd w32 (lit< tt) s_is)

  -- the four results
  pub b_is : Is 98304 (re -ℤ rb) (halfway a c d b -ℤ b)
  b_is = sub (is_rd w32 (lit< tt) e_is) (down h3)

  pub c_is : Is 98304 (re -ℤ rc) (halfway a c d b -ℤ c)
  c_is = sub (is_rd w32 (lit< tt) e_is) (down h1)

  pub a_is : Is 163840 (rp -ℤ rd w32 (re -ℤ rb)) ((a +ℤ c) -ℤ (halfway a c d b -ℤ b))
  a_is = sub (is_rd w32 (lit< tt) p_is) (is_rd w32 (lit< tt) b_is)

  pub d_is : Is 163840 (rq +ℤ rd w32 (re -ℤ rc)) ((d -ℤ b) +ℤ (halfway a c d b -ℤ c))
  d_is = add (is_rd w32 (lit< tt) q_is) (is_rd w32 (lit< tt) c_is)
