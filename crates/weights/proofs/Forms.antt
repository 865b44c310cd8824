-- A form says what a number is made of: 16384 times it is a weighted sum of the inputs, up to an error. What each operation makes of forms, and what a light one tells.
use mathlib.Core.Path.{◌≡◌, refl, ap, subst}
use mathlib.Core.Bool.{Bool}
use mathlib.Core.List.{List, [], ◌∷◌}
use Prim.Native.Nat.{ℕ, ◌+◌, ◌*◌, ◌/◌, zero, suc, ◌≤◌, ◌<◌}
use native.Mathlib.Nat as NatL
use native.Mathlib.Omega.{arith}
use lib.Dec.{leb, T, leb→le}
use lib.IntN.{ℤ, pos, negsuc, nat_abs, neg_ℤ, ◌+ℤ◌, ◌-ℤ◌, ◌*ℤ◌}
use lib.Signed.{shr_z}
use Rattle.whole.specs.Within.{Within}
use Rattle.whole.specs.Round.{Round2}
use Rattle.whole.proofs.Tests.{both, b₁, b₂}
use Rattle.whole.proofs.Ring.{at, ◌⊕◌, ◌⊖◌, ◌⊗◌, neg, ev, sound, ring}
use Rattle.whole.proofs.Parts.{sum_parts, shr_low, shr_high}
use Rattle.whole.proofs.Within.{within_abs, abs_bd, within_self, within_add, within_sub, within_mul, within_parts, within_le, abs_mul, within_zero}
use Rattle.primitives.specs.Cosine.{Cos64, Sin64}
use Rattle.primitives.specs.Rotations.{turn_x, turn_y}
use Rattle.weights.specs.Inner.{sum}

-- the weights of the inputs in 16384ths, those past the end 0; d counts the inputs' magnitudes, e stands alone
pub record Form : Type 0 where
  pub w : List ℤ
  pub d : ℕ
  pub e : ℕ

-- of 0
abbrev pub nil : Form
nil = record { w = []; d = 0; e = 0 }

-- the sum of two lists of weights
unfoldable pub plus : List ℤ → List ℤ → List ℤ
plus [] v = v
plus (a ∷ u) [] = a ∷ u
plus (a ∷ u) (b ∷ v) = (a +ℤ b) ∷ plus u v

-- c times each weight
unfoldable pub scaled : ℤ → List ℤ → List ℤ
scaled c [] = []
scaled c (a ∷ u) = (a *ℤ c) ∷ scaled c u

-- a 16384th of each weight, to the nearest
unfoldable pub less : List ℤ → List ℤ
less [] = []
less (a ∷ u) = Round2 a 14 ∷ less u

-- of a c + b s
abbrev pub mix_f : ℤ → ℤ → Form → Form → Form
mix_f c s p q =
    record {
      w = plus (scaled c p.w) (scaled s q.w);
      d = nat_abs c * p.d + nat_abs s * q.d;
      e = nat_abs c * p.e + nat_abs s * q.e;
    }

-- of a + b, a − b and −a
abbrev pub add_f : Form → Form → Form
add_f p q = mix_f (pos 1) (pos 1) p q

abbrev pub sub_f : Form → Form → Form
sub_f p q = mix_f (pos 1) (negsuc 0) p q

abbrev pub neg_f : Form → Form
neg_f p = mix_f (negsuc 0) (pos 0) p nil

-- of x and y of a rotation, not rounded
abbrev pub turn_xf : Form → Form → ℤ → Form
turn_xf p q g = mix_f (Cos64 g) (neg_ℤ (Sin64 g)) p q

abbrev pub turn_yf : Form → Form → ℤ → Form
turn_yf p q g = mix_f (Sin64 g) (Cos64 g) p q

-- of Round2(a, 14)
abbrev pub round_f : Form → Form
round_f p = record { w = less p.w; d = (p.d + 8192 + 16383) / 16384; e = (p.e + 16383) / 16384 + 8192 }

-- each weight's magnitude and d come to at most k
unfoldable pub unders : ℕ → ℕ → List ℤ → Bool
unders k d [] = leb d k
unders k d (a ∷ u) = both (leb (nat_abs a + d) k) (unders k d u)

-- the same of a form, and its error is at most e
unfoldable pub light : ℕ → ℕ → Form → Bool
light k e p = both (leb p.e e) (unders k p.d p.w)

-- input i alone
unfoldable pub unit : ℕ → List ℤ
unit zero = pos 16384 ∷ []
unit (suc i) = pos 0 ∷ unit i

abbrev pub unit_f : ℕ → Form
unit_f i = record { w = unit i; d = 0; e = 0 }

-- ---- what weights come to, over the inputs x 0 .. x (n - 1)
unfoldable pub dot : ℕ → List ℤ → (ℕ → ℤ) → ℤ
dot zero w x = pos 0
dot (suc n) [] x = pos 0
dot (suc n) (a ∷ w) x = a *ℤ x 0 +ℤ dot n w (λ i. x (suc i))

-- the inputs' magnitudes, added up
abbrev pub mass : ℕ → (ℕ → ℤ) → ℕ
mass n x = sum n (λ i. nat_abs (x i))

dot_nil : (n : ℕ) (x : ℕ → ℤ) → dot n [] x ≡ pos 0
unfolding dot
dot_nil zero x = refl
dot_nil (suc n) x = refl

dot_plus : (n : ℕ) (u v : List ℤ) (x : ℕ → ℤ) → dot n (plus u v) x ≡ dot n u x +ℤ dot n v x
unfolding dot plus
dot_plus zero u v x = refl
dot_plus (suc n) [] v x = let y = dot (suc n) v x in ring (at y) (at (pos 0) ⊕ at y) (omega arith)
dot_plus (suc n) (a ∷ u) [] x = let y = dot (suc n) (a ∷ u) x in ring (at y) (at y ⊕ at (pos 0)) (omega arith)
dot_plus (suc n) (a ∷ u) (b ∷ v) x =
    let y = dot n u (λ i. x (suc i)) in
    let z = dot n v (λ i. x (suc i)) in
    rw (dot_plus n u v (λ i. x (suc i)))
    (ring ((at a ⊕ at b) ⊗ at (x 0) ⊕ (at y ⊕ at z)) ((at a ⊗ at (x 0) ⊕ at y) ⊕ (at b ⊗ at (x 0) ⊕ at z)) (omega arith))

dot_scaled : (n : ℕ) (c : ℤ) (u : List ℤ) (x : ℕ → ℤ) → dot n (scaled c u) x ≡ dot n u x *ℤ c
unfolding dot scaled
dot_scaled zero c u x = ring (at (pos 0)) (at (pos 0) ⊗ at c) (omega arith)
dot_scaled (suc n) c [] x = ring (at (pos 0)) (at (pos 0) ⊗ at c) (omega arith)
dot_scaled (suc n) c (a ∷ u) x =
    let y = dot n u (λ i. x (suc i)) in
    rw (dot_scaled n c u (λ i. x (suc i))) (ring (at a ⊗ at c ⊗ at (x 0) ⊕ at y ⊗ at c) ((at a ⊗ at (x 0) ⊕ at y) ⊗ at c) (omega arith))

-- how far 16384 times a rounded number is from the number
near : (z : ℤ) → Within 8192 (pos 16384 *ℤ Round2 z 14 -ℤ z)
unfolding Round2
near z =
    let y = z +ℤ pos 8192 in
    let q = shr_z y 16384 in
    let d = at (pos 16384) ⊗ at q ⊖ at z in
    let s = sum_parts z (pos 8192) in
    let low = shr_low y 16384 (omega arith) in
    let high = shr_high y 16384 (omega arith) in
    within_parts 8192 (ev d) (omega (arith, sound d, s, low, high)) (omega (arith, sound d, s, low, high))

dot_less : (n : ℕ) (u : List ℤ) (x : ℕ → ℤ) → Within (8192 * mass n x) (pos 16384 *ℤ dot n (less u) x -ℤ dot n u x)
unfolding dot less sum
dot_less zero u x = within_zero
dot_less (suc n) [] x = within_zero
dot_less (suc n) (a ∷ u) x =
    let y = dot n u (λ i. x (suc i)) in
    let z = dot n (less u) (λ i. x (suc i)) in
    let r = Round2 a 14 in
    let m : ℤ = pos 16384 in
    let e =
    ring (at m ⊗ (at r ⊗ at (x 0) ⊕ at z) ⊖ (at a ⊗ at (x 0) ⊕ at y)) ((at m ⊗ at r ⊖ at a) ⊗ at (x 0) ⊕ (at m ⊗ at z ⊖ at y)) (omega arith) in
    rw e (within_le (omega arith) (within_add (within_mul (near a) (within_self (x 0))) (dot_less n u (λ i. x (suc i)))))

abs_add : (a b : ℤ) → nat_abs (a +ℤ b) ≤ nat_abs a + nat_abs b
abs_add a b = abs_bd (within_add (within_self a) (within_self b))

dot_under : (n k d : ℕ) (u : List ℤ) (x : ℕ → ℤ) → T (unders k d u) → nat_abs (dot n u x) + d * mass n x ≤ k * mass n x
unfolding dot unders sum
dot_under zero k d u x h = omega arith
dot_under (suc n) k d [] x h = omega (arith, NatL.mul-le-mul_right (mass (suc n) x) (leb→le d k h))
dot_under (suc n) k d (a ∷ u) x h =
    let l : nat_abs a + d ≤ k = leb→le (nat_abs a + d) k (b₁ (leb (nat_abs a + d) k) (unders k d u) h) in
    let r = dot_under n k d u (λ i. x (suc i)) (b₂ (leb (nat_abs a + d) k) (unders k d u) h) in
    omega (arith, r, NatL.mul-le-mul_right (nat_abs (x 0)) l, abs_add (a *ℤ x 0) (dot n u (λ i. x (suc i))), abs_mul a (x 0))

dot_unit : (n i : ℕ) (x : ℕ → ℤ) → i < n → dot n (unit i) x ≡ pos 16384 *ℤ x i
unfolding dot unit
dot_unit zero i x h = absurd (omega arith)
dot_unit (suc n) zero x h =
    rw (dot_nil n (λ i. x (suc i))) (ring (at (pos 16384) ⊗ at (x 0) ⊕ at (pos 0)) (at (pos 16384) ⊗ at (x 0)) (omega arith))
dot_unit (suc n) (suc i) x h =
    rw (dot_unit n i (λ i. x (suc i)) (omega arith)) (ring (at (pos 0) ⊗ at (x 0) ⊕ at (pos 16384) ⊗ at (x (suc i))) (at (pos 16384) ⊗ at (x (suc i))) (omega arith))

up : (a : ℕ) → a ≤ 16384 * ((a + 16383) / 16384)
up a = let h : 0 < 16384 = omega arith in omega (arith, NatL.div-add-mod' (a + 16383) 16384, NatL.mod-lt (a + 16383) h)

-- ---- one operation
-- 16384 z is what the form comes to, up to its d and e
pub record Weighs (n : ℕ) (x : ℕ → ℤ) (p : Form) (z : ℤ) : Type 0 where
  pub most : Within (p.d * mass n x + p.e) (pos 16384 *ℤ z -ℤ dot n p.w x)

module _ (n : ℕ) (x : ℕ → ℤ) where
  pub w_unit : (i : ℕ) → i < n → Weighs n x (unit_f i) (x i)
  w_unit i l =
      let y = pos 16384 *ℤ x i in
      record { most = rw (dot_unit n i x l, ring (at y ⊖ at y) (at (pos 0)) (omega arith)) within_zero }

  pub w_nil : Weighs n x nil (pos 0)
  w_nil = record { most = rw (dot_nil n x) within_zero }

  -- c times the one and s times the other
  w_mix : (c s : ℤ) {p q : Form} {a b : ℤ} → Weighs n x p a → Weighs n x q b → Weighs n x (mix_f c s p q) (a *ℤ c +ℤ b *ℤ s)
  w_mix c s {p} {q} {a} {b} h k =
      let y = dot n p.w x in
      let z = dot n q.w x in
      let m : ℤ = pos 16384 in
      let e =
      ring (at m ⊗ (at a ⊗ at c ⊕ at b ⊗ at s) ⊖ (at y ⊗ at c ⊕ at z ⊗ at s)) ((at m ⊗ at a ⊖ at y) ⊗ at c ⊕ (at m ⊗ at b ⊖ at z) ⊗ at s) (omega arith) in
      record {
        most =
            rw (dot_plus n (scaled c p.w) (scaled s q.w) x, dot_scaled n c p.w x, dot_scaled n s q.w x, e)
            (within_le (omega arith) (within_add (within_mul h.most (within_self c)) (within_mul k.most (within_self s))));
      }

  w_as : {p : Form} {y z : ℤ} → y ≡ z → Weighs n x p y → Weighs n x p z
  w_as {p} e h = subst (Weighs n x p) e h

  pub w_add : {p q : Form} {a b : ℤ} → Weighs n x p a → Weighs n x q b → Weighs n x (add_f p q) (a +ℤ b)
  w_add {p} {q} {a} {b} h k = w_as (ring (at a ⊗ at (pos 1) ⊕ at b ⊗ at (pos 1)) (at a ⊕ at b) (omega arith)) (w_mix (pos 1) (pos 1) h k)

  pub w_sub : {p q : Form} {a b : ℤ} → Weighs n x p a → Weighs n x q b → Weighs n x (sub_f p q) (a -ℤ b)
  w_sub {p} {q} {a} {b} h k = w_as (ring (at a ⊗ at (pos 1) ⊕ at b ⊗ at (negsuc 0)) (at a ⊖ at b) (omega arith)) (w_mix (pos 1) (negsuc 0) h k)

  pub w_neg : {p : Form} {a : ℤ} → Weighs n x p a → Weighs n x (neg_f p) (neg_ℤ a)
  w_neg {p} {a} h = w_as (ring (at a ⊗ at (negsuc 0) ⊕ at (pos 0) ⊗ at (pos 0)) (neg (at a)) (omega arith)) (w_mix (negsuc 0) (pos 0) h w_nil)

  pub w_turn_x : {p q : Form} {a b : ℤ} (g : ℤ) → Weighs n x p a → Weighs n x q b → Weighs n x (turn_xf p q g) (turn_x a b g)
  unfolding turn_x
  w_turn_x {p} {q} {a} {b} g h k =
      let c = Cos64 g in
      let s = Sin64 g in
      w_as (ring (at a ⊗ at c ⊕ at b ⊗ neg (at s)) (at a ⊗ at c ⊖ at b ⊗ at s) (omega arith)) (w_mix c (neg_ℤ s) h k)

  pub w_turn_y : {p q : Form} {a b : ℤ} (g : ℤ) → Weighs n x p a → Weighs n x q b → Weighs n x (turn_yf p q g) (turn_y a b g)
  unfolding turn_y
  w_turn_y g h k = w_mix (Sin64 g) (Cos64 g) h k

  pub w_round : {p : Form} {z : ℤ} → Weighs n x p z → Weighs n x (round_f p) (Round2 z 14)
  w_round {p} {z} h =
      let m : ℤ = pos 16384 in
      let r = Round2 z 14 in
      let y = dot n p.w x in
      let u = dot n (less p.w) x in
      let e =
      ring (at m ⊗ (at m ⊗ at r ⊖ at u)) (at m ⊗ (at m ⊗ at r ⊖ at z) ⊕ (at m ⊗ at z ⊖ at y) ⊖ (at m ⊗ at u ⊖ at y)) (omega arith) in
      let all = within_sub (within_add (within_mul (within_self m) (near z)) h.most) (dot_less n p.w x) in
      record {
        most =
            within_abs (omega (arith, abs_bd all, ap nat_abs e, abs_mul m (m *ℤ r -ℤ u), up p.e, NatL.mul-le-mul_right (mass n x) (up (p.d + 8192))));
      }

  -- how far a number of a light form reaches
  pub w_light : (k e : ℕ) {p : Form} {z : ℤ} → T (light k e p) → Weighs n x p z → 16384 * nat_abs z ≤ k * mass n x + e
  unfolding light
  w_light k e {p} {z} t h =
      let m : ℤ = pos 16384 in
      let y = dot n p.w x in
      let q = ring (at m ⊗ at z) ((at m ⊗ at z ⊖ at y) ⊕ at y) (omega arith) in
      omega (
        arith,
        abs_bd (within_add h.most (within_self y)),
        ap nat_abs q,
        abs_mul m z,
        leb→le p.e e (b₁ (leb p.e e) (unders k p.d p.w) t),
        dot_under n k p.d p.w x (b₂ (leb p.e e) (unders k p.d p.w) t),
      )
