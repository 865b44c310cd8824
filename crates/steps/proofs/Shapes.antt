-- What is known of a value without its number: it is 0 (Z), it is x (X), it is x rotated by 16 (R), or nothing (U). Shapes go through the steps beside T and S.
use mathlib.Core.Path.{◌≡◌, refl, sym, ap, ◌∙◌, subst}
use mathlib.Core.Bool.{Bool, true, false}
use mathlib.Core.List.{List, [], ◌∷◌}
use Prim.Native.Nat.{ℕ, ◌≤◌, ◌<◌, zero, suc, ◌^◌}
use lib.Dec.{eqb, T}
use lib.IntN.{ℤ, pos, negsuc, ◌*ℤ◌, neg_ℤ, ◌+ℤ◌, ◌-ℤ◌, zero-*ℤ, +ℤ_idr}
use lib.ListN.{length, get_or, set, replicate, length-set, length-replicate, get_or-replicate}
use Rattle.whole.specs.Round.{Round2}
use Rattle.whole.specs.Lists.{move, fill}
use Rattle.steps.specs.Step.{Step, Bf, Hd, Neg, Move, A4, Wh, step, adst4, halfway, wht4}
use Rattle.steps.specs.Inner.{turned}
use Rattle.steps.specs.Step2.{Arrays, Step2, on, SB, SH, step2, fresh}
use native.Mathlib.Nat as NatL
use native.Mathlib.Decide.{dec_lt}
use native.Mathlib.Omega.{arith}
use lib.Seq.{ext_get_or}
use lib.Signed.{shr_z}
use borrow.Author.Tests.{eqb-true}
use Rattle.whole.specs.Steps.{run}
use Rattle.whole.proofs.Steps.{keeps}
use Rattle.primitives.specs.Cosine.{Cos64, Sin64, cos_at}
use Rattle.primitives.specs.Rotations.{turn_x, turn_y, set_pair, apply_b, apply_h, apply_sb, apply_sh}
use Rattle.steps.proofs.Places.{writes, writes2, every, Stays, steps_stay, steps_stay2}

pub data TxType : Type 0 where
  Z X R U : TxType

unfoldable pub Is : ℤ → TxType → ℤ → Type 0
Is x Z z = z ≡ pos 0
Is x X z = z ≡ x
Is x R z = z ≡ turned x
Is x U z = Unit

-- number k of t is as number k of vs says, as far as vs goes
pub record Are (x : ℤ) (vs : List TxType) (t : List ℤ) : Type 0 where
  pub long : length vs ≤ length t
  pub each : (k : ℕ) → Is x (get_or vs k U) (get_or t k (pos 0))

abbrev pub is16 : ℤ → Bool
is16 (pos a) = eqb a 16
is16 (negsuc a) = false

abbrev pub at16 : Bool → TxType
at16 true = R
at16 false = U

-- both values of B of these two; of H; of a sign change
abbrev pub pair_b : Bool → TxType → TxType → TxType
pair_b c Z Z = Z
pair_b c Z X = U
pair_b c Z R = U
pair_b c Z U = U
pair_b c X Z = at16 c
pair_b c X X = U
pair_b c X R = U
pair_b c X U = U
pair_b c R w = U
pair_b c U w = U

abbrev pub pair_h : TxType → TxType → TxType
pair_h v Z = v
pair_h v X = U
pair_h v R = U
pair_h v U = U

abbrev pub pair_n : TxType → TxType
pair_n Z = Z
pair_n X = U
pair_n R = U
pair_n U = U

-- Z where all are Z
abbrev pub join : TxType → TxType → TxType
join Z w = pair_n w
join X w = U
join R w = U
join U w = U

abbrev pub join_four : List TxType → TxType
join_four vs = join (get_or vs 0 U) (join (get_or vs 1 U) (join (get_or vs 2 U) (get_or vs 3 U)))

unfoldable pub shape : Step → List TxType → List TxType
shape (Bf a b g f) vs = let v = pair_b (is16 g) (get_or vs a U) (get_or vs b U) in set (set vs a v) b v
shape (Hd a b false) vs = let v = pair_h (get_or vs a U) (get_or vs b U) in set (set vs a v) b v
shape (Hd a b true) vs = let v = pair_h (get_or vs b U) (get_or vs a U) in set (set vs b v) a v
shape (Neg i) vs = set vs i (pair_n (get_or vs i U))
shape (Move k f) vs = move U k f vs
shape A4 vs = let v = join_four vs in set (set (set (set vs 0 v) 1 v) 2 v) 3 v
shape (Wh k) vs = let v = join_four vs in set (set (set (set vs 0 v) 1 v) 2 v) 3 v

-- ---- over T and S
pub record Shapes : Type 0 where
  pub T : List TxType
  pub S : List TxType

pub record Are2 (x : ℤ) (v : Shapes) (u : Arrays) : Type 0 where
  pub of_t : Are x v.T u.T
  pub of_s : Are x v.S u.S

unfoldable pub shape2 : Step2 → Shapes → Shapes
shape2 (on s) v = record { T = shape s v.T; S = v.S }
shape2 (SB a b g f) v = let w = join (get_or v.T a U) (get_or v.T b U) in record { T = v.T; S = set (set v.S a w) b w }
shape2 (SH a b) v = let w = join (get_or v.S a U) (get_or v.S b U) in record { T = set (set v.T a w) b w; S = v.S }

-- S starts as zeros
abbrev pub blank : List TxType → Shapes
blank vs = record { T = vs; S = replicate 16 Z }

-- ---- the rows that a driver meets: the first n numbers are 0; the first is x, and the others below n are 0
pub record Zeros (n : ℕ) (t : List ℤ) : Type 0 where
  pub long : n ≤ length t
  pub zeros : (k : ℕ) → k < n → get_or t k (pos 0) ≡ pos 0

pub record Alone (n : ℕ) (x : ℤ) (t : List ℤ) : Type 0 where
  pub long : n ≤ length t
  pub here : get_or t 0 (pos 0) ≡ x
  pub zeros : (k : ℕ) → 0 < k → k < n → get_or t k (pos 0) ≡ pos 0

-- ---- Shapes are sound: what they say after the steps holds of the values. From there, zeros stay zeros, and a row of x alone becomes one number everywhere.
record Val (x : ℤ) (v : TxType) (z : ℤ) : Type 0 where
  is : Is x v z

module _ (x : ℤ) where
  set_each : (vs : List TxType) (t : List ℤ) (i : ℕ) (v : TxType) (z : ℤ) → length vs ≤ length t → ((k : ℕ) → Is x (get_or vs k U) (get_or t k (pos 0))) → Is x v z
      → (k : ℕ) → Is x (get_or (set vs i v) k U) (get_or (set t i z) k (pos 0))
  unfolding Is
  set_each [] t i v z l h b k = tt
  set_each (w ∷ vs) [] i v z l h b k = absurd (omega arith)
  set_each (w ∷ vs) (y ∷ t) zero v z l h b zero = b
  set_each (w ∷ vs) (y ∷ t) zero v z l h b (suc k) = h (suc k)
  set_each (w ∷ vs) (y ∷ t) (suc i) v z l h b zero = h zero
  set_each (w ∷ vs) (y ∷ t) (suc i) v z l h b (suc k) = set_each vs t i v z (omega arith) (λ j. h (suc j)) b k

  are_set : {vs : List TxType} {t : List ℤ} {v : TxType} {z : ℤ} (i : ℕ) → Are x vs t → Val x v z → Are x (set vs i v) (set t i z)
  are_set {vs} {t} {v} {z} i h b =
      record { long = omega (arith, length-set vs i v, length-set t i z, h.long); each = set_each vs t i v z h.long h.each b.is }

  fill_are : (f : ℕ → ℕ) (vs : List TxType) (t : List ℤ) → Are x vs t → (l : ℕ) → Are x (fill l (λ i. get_or vs (f i) U) vs) (fill l (λ i. get_or t (f i) (pos 0)) t)
  unfolding fill
  fill_are f vs t h zero = h
  fill_are f vs t h (suc l) = are_set l (fill_are f vs t h l) (record { is = h.each (f l) })

  any : {z : ℤ} → Val x U z
  unfolding Is
  any = record { is = tt }

  zero_x : (g : ℤ) → turn_x (pos 0) (pos 0) g ≡ pos 0
  unfolding turn_x
  zero_x g = rw (zero-*ℤ (Cos64 g), zero-*ℤ (Sin64 g))

  zero_y : (g : ℤ) → turn_y (pos 0) (pos 0) g ≡ pos 0
  unfolding turn_y
  zero_y g = rw (zero-*ℤ (Cos64 g), zero-*ℤ (Sin64 g))

  round_zero : {z : ℤ} → z ≡ pos 0 → Round2 z 14 ≡ pos 0
  unfolding Round2
  round_zero e = rw e

  one_x : turn_x x (pos 0) (pos 16) ≡ x *ℤ pos 11585
  unfolding turn_x Cos64 Sin64 cos_at
  one_x = +ℤ_idr (x *ℤ pos 11585)

  one_y : turn_y x (pos 0) (pos 16) ≡ x *ℤ pos 11585
  unfolding turn_y Cos64 Sin64 cos_at
  one_y = +ℤ_idr (x *ℤ pos 11585)

  sixteen : (g : ℤ) → is16 g ≡ true → g ≡ pos 16
  sixteen (pos a) e = ap pos (eqb-true a 16 e)
  sixteen (negsuc a) e = cc

  both16 : (g : ℤ) (c : Bool) → is16 g ≡ c → Val x (at16 c) (Round2 (turn_x x (pos 0) g) 14) × Val x (at16 c) (Round2 (turn_y x (pos 0) g) 14)
  unfolding Is turned
  both16 g true e = rw (sixteen g e) (record { is = ap (λ z. Round2 z 14) one_x }, record { is = ap (λ z. Round2 z 14) one_y })
  both16 g false e = (any, any)

  turn_is : (g : ℤ) (v w : TxType) (p q : ℤ) → Is x v p → Is x w q
      → Val x (pair_b (is16 g) v w) (Round2 (turn_x p q g) 14) × Val x (pair_b (is16 g) v w) (Round2 (turn_y p q g) 14)
  unfolding Is
  turn_is g Z Z p q a b = rw (a, b) (record { is = round_zero (zero_x g) }, record { is = round_zero (zero_y g) })
  turn_is g Z X p q a b = (any, any)
  turn_is g Z R p q a b = (any, any)
  turn_is g Z U p q a b = (any, any)
  turn_is g X Z p q a b = rw (a, b) (both16 g (is16 g) refl)
  turn_is g X X p q a b = (any, any)
  turn_is g X R p q a b = (any, any)
  turn_is g X U p q a b = (any, any)
  turn_is g R w p q a b = (any, any)
  turn_is g U w p q a b = (any, any)

  had_is : (v w : TxType) (p q : ℤ) → Is x v p → Is x w q → Val x (pair_h v w) (p +ℤ q) × Val x (pair_h v w) (p -ℤ q)
  unfolding Is
  had_is v Z p q a b = rw (b, +ℤ_idr p) (record { is = a }, record { is = a })
  had_is v X p q a b = (any, any)
  had_is v R p q a b = (any, any)
  had_is v U p q a b = (any, any)

  neg_is : (v : TxType) (p : ℤ) → Is x v p → Val x (pair_n v) (neg_ℤ p)
  unfolding Is
  neg_is Z p a = record { is = rw a }
  neg_is X p a = any
  neg_is R p a = any
  neg_is U p a = any

  -- what is 0 where both are, where all four are
  join_is : (v w : TxType) {p q z : ℤ} → (p ≡ pos 0 → q ≡ pos 0 → z ≡ pos 0) → Is x v p → Is x w q → Val x (join v w) z
  unfolding Is
  join_is Z Z f a b = record { is = f a b }
  join_is Z X f a b = any
  join_is Z R f a b = any
  join_is Z U f a b = any
  join_is X w f a b = any
  join_is R w f a b = any
  join_is U w f a b = any

  four_is : (p q r s : TxType) {a b c d z : ℤ} → (a ≡ pos 0 → b ≡ pos 0 → c ≡ pos 0 → d ≡ pos 0 → z ≡ pos 0) → Is x p a → Is x q b → Is x r c → Is x s d
      → Val x (join p (join q (join r s))) z
  unfolding Is
  four_is Z Z Z Z i e f g h = record { is = i e f g h }
  four_is Z Z Z X i e f g h = any
  four_is Z Z Z R i e f g h = any
  four_is Z Z Z U i e f g h = any
  four_is Z Z X s i e f g h = any
  four_is Z Z R s i e f g h = any
  four_is Z Z U s i e f g h = any
  four_is Z X r s i e f g h = any
  four_is Z R r s i e f g h = any
  four_is Z U r s i e f g h = any
  four_is X q r s i e f g h = any
  four_is R q r s i e f g h = any
  four_is U q r s i e f g h = any

  of_four : {vs : List TxType} {t : List ℤ} {z : ℤ} → Are x vs t
      → (get_or t 0 (pos 0) ≡ pos 0 → get_or t 1 (pos 0) ≡ pos 0 → get_or t 2 (pos 0) ≡ pos 0 → get_or t 3 (pos 0) ≡ pos 0 → z ≡ pos 0) → Val x (join_four vs) z
  of_four {vs} {t} h i = four_is (get_or vs 0 U) (get_or vs 1 U) (get_or vs 2 U) (get_or vs 3 U) i (h.each 0) (h.each 1) (h.each 2) (h.each 3)

  shape_a4 : (vs : List TxType) (t : List ℤ) → Are x vs t → Are x (shape A4 vs) (step A4 t)
  unfolding shape step adst4 Round2
  shape_a4 vs t h =
      are_set 3
      (are_set 2 (are_set 1 (are_set 0 h (of_four h (λ a b c d. rw (a, b, c, d)))) (of_four h (λ a b c d. rw (a, b, c, d)))) (of_four h (λ a b c d. rw (a, c, d))))
      (of_four h (λ a b c d. rw (a, b, c, d)))

  shr_zero : (k : ℕ) {z : ℤ} → z ≡ pos 0 → shr_z z (2 ^ k) ≡ pos 0
  shr_zero k e = rw e (ap pos (NatL.zero-div (2 ^ k)))

  shape_wh : (k : ℕ) (vs : List TxType) (t : List ℤ) → Are x vs t → Are x (shape (Wh k) vs) (step (Wh k) t)
  unfolding shape step wht4 halfway
  shape_wh k vs t h =
      are_set 3
      (are_set 2 (are_set 1 (are_set 0 h (of_four h (λ a b c d. rw (shr_zero k a, shr_zero k b, shr_zero k c, shr_zero k d)))) (of_four h (λ a b c d. rw (shr_zero k a, shr_zero k b, shr_zero k c, shr_zero k d)))) (of_four h (λ a b c d. rw (shr_zero k a, shr_zero k b, shr_zero k c, shr_zero k d))))
      (of_four h (λ a b c d. rw (shr_zero k a, shr_zero k b, shr_zero k c, shr_zero k d)))

  pub shape_sound : (s : Step) (vs : List TxType) (t : List ℤ) → Are x vs t → Are x (shape s vs) (step s t)
  unfolding shape step apply_b apply_h set_pair move
  shape_sound (Bf a b g false) vs t h =
      let r = turn_is g (get_or vs a U) (get_or vs b U) (get_or t a (pos 0)) (get_or t b (pos 0)) (h.each a) (h.each b) in are_set b (are_set a h r.0) r.1
  shape_sound (Bf a b g true) vs t h =
      let r = turn_is g (get_or vs a U) (get_or vs b U) (get_or t a (pos 0)) (get_or t b (pos 0)) (h.each a) (h.each b) in are_set b (are_set a h r.1) r.0
  shape_sound (Hd a b false) vs t h =
      let r = had_is (get_or vs a U) (get_or vs b U) (get_or t a (pos 0)) (get_or t b (pos 0)) (h.each a) (h.each b) in are_set b (are_set a h r.0) r.1
  shape_sound (Hd a b true) vs t h =
      let r = had_is (get_or vs b U) (get_or vs a U) (get_or t b (pos 0)) (get_or t a (pos 0)) (h.each b) (h.each a) in are_set a (are_set b h r.0) r.1
  shape_sound (Neg i) vs t h = are_set i h (neg_is (get_or vs i U) (get_or t i (pos 0)) (h.each i))
  shape_sound (Move k f) vs t h = fill_are f vs t h k
  shape_sound A4 vs t h = shape_a4 vs t h
  shape_sound (Wh k) vs t h = shape_wh k vs t h

  -- THE theorem of shapes
  pub shapes_sound : (ss : List Step) (vs : List TxType) (t : List ℤ) → Are x vs t → Are x (run shape ss vs) (run step ss t)
  shapes_sound = keeps step shape (Are x) shape_sound

  -- ---- over T and S
  sb_is : (g : ℤ) (v w : TxType) (p q : ℤ) → Is x v p → Is x w q → Val x (join v w) (turn_x p q g) × Val x (join v w) (turn_y p q g)
  sb_is g v w p q a b = (join_is v w (λ e f. rw (e, f) (zero_x g)) a b, join_is v w (λ e f. rw (e, f) (zero_y g)) a b)

  sh_is : (v w : TxType) (p q : ℤ) → Is x v p → Is x w q → Val x (join v w) (Round2 (p +ℤ q) 14) × Val x (join v w) (Round2 (p -ℤ q) 14)
  sh_is v w p q a b = (join_is v w (λ e f. round_zero (rw (e, f))) a b, join_is v w (λ e f. round_zero (rw (e, f))) a b)

  pub shape_sound2 : (s : Step2) (v : Shapes) (u : Arrays) → Are2 x v u → Are2 x (shape2 s v) (step2 s u)
  unfolding shape2 step2 apply_sb apply_sh set_pair
  shape_sound2 (on s) v u h = record { of_t = shape_sound s v.T u.T h.of_t; of_s = h.of_s }
  shape_sound2 (SB a b g false) v u h =
      let r = sb_is g (get_or v.T a U) (get_or v.T b U) (get_or u.T a (pos 0)) (get_or u.T b (pos 0)) (h.of_t.each a) (h.of_t.each b) in
      record { of_t = h.of_t; of_s = are_set b (are_set a h.of_s r.0) r.1 }
  shape_sound2 (SB a b g true) v u h =
      let r = sb_is g (get_or v.T a U) (get_or v.T b U) (get_or u.T a (pos 0)) (get_or u.T b (pos 0)) (h.of_t.each a) (h.of_t.each b) in
      record { of_t = h.of_t; of_s = are_set b (are_set a h.of_s r.1) r.0 }
  shape_sound2 (SH a b) v u h =
      let r = sh_is (get_or v.S a U) (get_or v.S b U) (get_or u.S a (pos 0)) (get_or u.S b (pos 0)) (h.of_s.each a) (h.of_s.each b) in
      record { of_t = are_set b (are_set a h.of_t r.0) r.1; of_s = h.of_s }

  pub shapes_sound2 : (ss : List Step2) (v : Shapes) (u : Arrays) → Are2 x v u → Are2 x (run shape2 ss v) (run step2 ss u)
  shapes_sound2 = keeps step2 shape2 (Are2 x) shape_sound2

-- ---- the laws that a driver cites, from two tests that are computed of a list of steps
zeros_each : (x : ℤ) (n : ℕ) (t : List ℤ) → ((k : ℕ) → k < n → get_or t k (pos 0) ≡ pos 0) → (k : ℕ) → Is x (get_or (replicate n Z) k U) (get_or t k (pos 0))
unfolding Is
zeros_each x zero t z k = tt
zeros_each x (suc n) t z zero = z 0 (omega arith)
zeros_each x (suc n) [] z (suc k) = zeros_each x n [] (λ j h. refl) k
zeros_each x (suc n) (y ∷ t) z (suc k) = zeros_each x n t (λ j h. z (suc j) (omega arith)) k

pub are_zeros : (x : ℤ) {n : ℕ} {t : List ℤ} → Zeros n t → Are x (replicate n Z) t
are_zeros x {n} {t} z = record { long = rw length-replicate z.long; each = zeros_each x n t z.zeros }

alone_each : (x : ℤ) (n : ℕ) (t : List ℤ) → get_or t 0 (pos 0) ≡ x → ((k : ℕ) → 0 < k → k < suc n → get_or t k (pos 0) ≡ pos 0)
    → (k : ℕ) → Is x (get_or (X ∷ replicate n Z) k U) (get_or t k (pos 0))
unfolding Is
alone_each x n t e z zero = e
alone_each x n [] e z (suc k) = zeros_each x n [] (λ j h. refl) k
alone_each x n (y ∷ t) e z (suc k) = zeros_each x n t (λ j h. z (suc j) (omega arith) (omega arith)) k

pub are_alone : {n : ℕ} {x : ℤ} {t : List ℤ} → Alone (suc n) x t → Are x (X ∷ replicate n Z) t
are_alone {n} {x} {t} a = record { long = rw length-replicate a.long; each = alone_each x n t a.here a.zeros }

-- a row of zeros stays as it is
zeros_keep : (n : ℕ) {t u : List ℤ} → Zeros n t → Stays n t u → Are (pos 0) (replicate n Z) u → u ≡ t
unfolding Is
zeros_keep n {t} {u} z s a = ext_get_or (pos 0) u t s.long (λ k l. go k (dec_lt k n))
  where
    go : (k : ℕ) → Dec (k < n) → get_or u k (pos 0) ≡ get_or t k (pos 0)
    go k (yes h) = (rw (get_or-replicate n k Z U h) at (a.each k)) ∙ sym (z.zeros k h)
    go k (no h) = s.same k (omega arith)

pub zeros_stay : (n : ℕ) (ss : List Step) {t : List ℤ} → run shape ss (replicate n Z) ≡ replicate n Z → T (every (writes n) ss) → Zeros n t → run step ss t ≡ t
zeros_stay n ss {t} e w z =
    zeros_keep n z (steps_stay n ss t w) (subst (λ (vs : List TxType). Are (pos 0) vs (run step ss t)) e (shapes_sound (pos 0) ss (replicate n Z) t (are_zeros (pos 0) z)))

pub zeros_stay2 : (n : ℕ) (ss : List Step2) {t : List ℤ} → (run shape2 ss (blank (replicate n Z))).T ≡ replicate n Z → T (every (writes2 n) ss) → Zeros n t
    → (run step2 ss (fresh t)).T ≡ t
unfolding fresh
zeros_stay2 n ss {t} e w z =
    let u = fresh t in
    let s : Are (pos 0) (replicate 16 Z) (replicate 16 (pos 0)) = are_zeros (pos 0) (record { long = omega arith; zeros = λ k h. get_or-replicate 16 k (pos 0) (pos 0) h }) in
    let r = shapes_sound2 (pos 0) ss (blank (replicate n Z)) u (record { of_t = are_zeros (pos 0) z; of_s = s }) in
    zeros_keep n z (steps_stay2 n ss u w) (subst (λ (vs : List TxType). Are (pos 0) vs (run step2 ss u).T) e r.of_t)

-- x alone becomes x rotated by 16, everywhere
pub alone_turned : (n : ℕ) (ss : List Step) {x : ℤ} {t : List ℤ} → run shape ss (X ∷ replicate n Z) ≡ replicate (suc n) R → Alone (suc n) x t
    → (k : ℕ) → k < suc n → get_or (run step ss t) k (pos 0) ≡ turned x
unfolding Is
alone_turned n ss {x} {t} e a k h =
    let r = subst (λ (vs : List TxType). Are x vs (run step ss t)) e (shapes_sound x ss (X ∷ replicate n Z) t (are_alone a)) in
    rw (get_or-replicate (suc n) k R U h) at (r.each k)
