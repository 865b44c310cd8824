-- Forms through the steps of T: a walk that meets light forms alone leaves every number within 16 bits.
use mathlib.Core.Path.{◌≡◌, refl, ◌∙◌}
use mathlib.Core.Bool.{Bool, true, false}
use mathlib.Core.List.{List, [], ◌∷◌}
use Prim.Native.Nat.{ℕ, ◌+◌, ◌*◌, ◌≤◌, ◌<◌}
use native.Mathlib.Nat as NatL
use native.Mathlib.Omega.{arith}
use lib.Dec.{leb, ltb, T, leb→le, ltb→lt}
use lib.IntN.{ℤ, pos, nat_abs}
use lib.ListN.{length, get_or, set}
use Rattle.whole.specs.Lists.{move}
use Rattle.whole.specs.Steps.{run}
use Rattle.whole.specs.Inner.{Ok}
use Rattle.whole.proofs.Tests.{both, all_below, b₁, b₂, below}
use Rattle.whole.proofs.Parts.{abs_parts}
use Rattle.whole.proofs.Steps.{ok_here, ok_rest, checks, checks_sound}
use Rattle.primitives.specs.Rotations.{apply_b, apply_h}
use Rattle.steps.specs.Step.{Step, Bf, Hd, Neg, Move, A4, Wh, step}
use Rattle.steps.proofs.Places.{every}
use Rattle.narrow.specs.Kept.{short, shorts, kept}
use Rattle.narrow.specs.Inner.{short_pair, fits_h, fits, passes}
use Rattle.narrow.proofs.Short.{short_in}
use Rattle.narrow.proofs.Kept.{and_true, shorts_all, placed, two, kept_fits}
use Rattle.weights.specs.Inner.{total}
use Rattle.weights.proofs.Sums.{total_one}
use Rattle.weights.proofs.Forms.{Form, nil, add_f, sub_f, neg_f, turn_xf, turn_yf, round_f, light, mass, Weighs, w_add, w_sub, w_neg, w_turn_x, w_turn_y, w_round, w_light}
use Rattle.weights.proofs.Beside.{units, pair_f, Beside, beside_set, beside_two, beside_pair, beside_fill, beside_units}

-- what a step makes of the forms
unfoldable pub weigh : Step → List Form → List Form
weigh (Bf a b g flip) d =
    let p = get_or d a nil in
    let q = get_or d b nil in
    pair_f d a b (round_f (turn_xf p q g)) (round_f (turn_yf p q g)) flip
weigh (Hd a b false) d = set (set d a (add_f (get_or d a nil) (get_or d b nil))) b (sub_f (get_or d a nil) (get_or d b nil))
weigh (Hd a b true) d = set (set d b (add_f (get_or d b nil) (get_or d a nil))) a (sub_f (get_or d b nil) (get_or d a nil))
weigh (Neg i) d = set d i (neg_f (get_or d i nil))
weigh (Move k f) d = move nil k f d
weigh A4 d = d
weigh (Wh shift) d = d

-- both are light
abbrev pub lights : ℕ → ℕ → Form → Form → Bool
lights k e p q = both (light k e p) (light k e q)

-- what a step computes is light
unfoldable pub calm : ℕ → ℕ → Step → List Form → Bool
calm k e (Bf a b g flip) d =
    let p = get_or d a nil in
    let q = get_or d b nil in
    lights k e (round_f (turn_xf p q g)) (round_f (turn_yf p q g))
calm k e (Hd a b false) d = lights k e (add_f (get_or d a nil) (get_or d b nil)) (sub_f (get_or d a nil) (get_or d b nil))
calm k e (Hd a b true) d = lights k e (add_f (get_or d b nil) (get_or d a nil)) (sub_f (get_or d b nil) (get_or d a nil))
calm k e (Neg i) d = light k e (neg_f (get_or d i nil))
calm k e (Move l f) d = true
calm k e A4 d = false
calm k e (Wh shift) d = false

-- ---- one step
weigh_beside : {n : ℕ} {x : ℕ → ℤ} (k e : ℕ) (s : Step) (d : List Form) (t : List ℤ) → T (placed n s) → T (calm k e s d) → Beside n x d t → Beside n x (weigh s d) (step s t)
unfolding placed calm weigh step apply_b apply_h move
weigh_beside {n} {x} k e (Bf a b g flip) d t h c w =
    let o = two n a b h in
    let wa = w.each a o.la in
    let wb = w.each b o.lb in
    beside_pair a b flip w (w_round n x (w_turn_x n x g wa wb)) (w_round n x (w_turn_y n x g wa wb))
weigh_beside {n} {x} k e (Hd a b false) d t h c w =
    let o = two n a b h in
    let wa = w.each a o.la in
    let wb = w.each b o.lb in
    beside_two a b w (w_add n x wa wb) (w_sub n x wa wb)
weigh_beside {n} {x} k e (Hd a b true) d t h c w =
    let o = two n a b h in
    let wa = w.each a o.la in
    let wb = w.each b o.lb in
    beside_two b a w (w_add n x wb wa) (w_sub n x wb wa)
weigh_beside {n} {x} k e (Neg i) d t h c w = beside_set i w (w_neg n x (w.each i (ltb→lt i n h)))
weigh_beside {n} k e (Move l f) d t h c w =
    beside_fill f l (λ i q. ltb→lt (f i) n (below l (λ j. ltb (f j) n) (b₂ (leb l n) (all_below l (λ j. ltb (f j) n)) h) i q)) w
weigh_beside k e A4 d t h c w = absurd c
weigh_beside k e (Wh shift) d t h c w = absurd c

-- a magnitude below 32768 is one of 16 bits
pub low_short : (b : ℕ) (z : ℤ) → 16384 * nat_abs z ≤ b → b < 536870912 → short z ≡ true
low_short b z h l = short_in z (omega (arith, abs_parts z)) (omega (arith, abs_parts z))

module _ (n k e : ℕ) (x : ℕ → ℤ) (small : k * mass n x + e < 536870912) where
  light_short : {p : Form} {z : ℤ} → T (light k e p) → Weighs n x p z → short z ≡ true
  light_short {p} {z} h w = low_short (k * mass n x + e) z (w_light n x k e h w) small

  pub lights_short : {p q : Form} {y z : ℤ} → T (lights k e p q) → Weighs n x p y → Weighs n x q z → short_pair y z ≡ true
  unfolding short_pair
  lights_short {p} {q} {y} {z} h wp wq =
      and_true (short y) (short z) (light_short (b₁ (light k e p) (light k e q) h) wp) (light_short (b₂ (light k e p) (light k e q) h) wq)

  pub calm_fits : (s : Step) (d : List Form) (t : List ℤ) → T (placed n s) → T (calm k e s d) → Beside n x d t → fits s t ≡ true
  unfolding placed calm fits fits_h
  calm_fits (Bf a b g flip) d t h c w =
      let o = two n a b h in
      let wa = w.each a o.la in
      let wb = w.each b o.lb in
      lights_short c (w_round n x (w_turn_x n x g wa wb)) (w_round n x (w_turn_y n x g wa wb))
  calm_fits (Hd a b false) d t h c w =
      let o = two n a b h in
      let wa = w.each a o.la in
      let wb = w.each b o.lb in
      lights_short c (w_add n x wa wb) (w_sub n x wa wb)
  calm_fits (Hd a b true) d t h c w =
      let o = two n a b h in
      let wa = w.each a o.la in
      let wb = w.each b o.lb in
      lights_short c (w_add n x wb wa) (w_sub n x wb wa)
  calm_fits (Neg i) d t h c w = light_short c (w_neg n x (w.each i (ltb→lt i n h)))
  calm_fits (Move l f) d t h c w = refl
  calm_fits A4 d t h c w = absurd c
  calm_fits (Wh shift) d t h c w = absurd c

  pub calm_step : (s : Step) (d : List Form) (t : List ℤ) → T (both (placed n s) (calm k e s d)) → Beside n x d t
      → (fits s t ≡ true) × Beside n x (weigh s d) (step s t)
  calm_step s d t h w =
      let o = b₁ (placed n s) (calm k e s d) h in
      let q = b₂ (placed n s) (calm k e s d) h in
      (calm_fits s d t o q w, weigh_beside k e s d t o q w)

-- ---- a list of steps
-- steps that pass one by one pass together
pub ok_passes : {A S : Type 0} (step : A → S → S) (test : A → S → Bool) (ss : List A) (t : S) → Ok step (λ s u. test s u ≡ true) ss t → passes step test ss t ≡ true
unfolding passes
ok_passes step test [] t h = refl
ok_passes step test (s ∷ ss) t h = and_true (test s t) (passes step test ss (step s t)) (ok_here h) (ok_passes step test ss (step s t) (ok_rest h))

-- the first n forms are light
unfoldable pub ends : ℕ → ℕ → ℕ → List Form → Bool
ends n k e d = all_below n (λ i. light k e (get_or d i nil))

-- the steps' places are below n, and no weight past k and no error past e is met on the way or left at the end
unfoldable pub mild : ℕ → ℕ → ℕ → List Step → Bool
mild n k e ss = both (leb 16384 k) (both (every (placed n) ss) (both (checks weigh (λ s d. both (placed n s) (calm k e s d)) ss (units n)) (ends n k e (run weigh ss (units n)))))

-- each of the n numbers of u, 16384 fold, is at most k times the total of t, and e
pub record Reaches (n k e : ℕ) (t u : List ℤ) : Type 0 where
  pub each : (i : ℕ) → i < n → 16384 * nat_abs (get_or u i (pos 0)) ≤ k * total n t + e

-- so far reach the inputs themselves
pub start_short : (n k e : ℕ) (t : List ℤ) → 16384 ≤ k → k * total n t + e < 536870912 → shorts n t ≡ true
start_short n k e t h small =
    shorts_all n t (λ i l. low_short (k * total n t + e) (get_or t i (pos 0)) (omega (arith, total_one n i t l, NatL.mul-le-mul_right (total n t) h)) small)

pub ends_reach : (n k e : ℕ) (t u : List ℤ) (d : List Form) → T (ends n k e d) → Beside n (λ i. get_or t i (pos 0)) d u → Reaches n k e t u
unfolding ends total
ends_reach n k e t u d h w =
    record { each = λ i l. w_light n (λ i. get_or t i (pos 0)) k e (below n (λ i. light k e (get_or d i nil)) h i l) (w.each i l) }

-- THE weights law
pub weights : (n k e : ℕ) (ss : List Step) (t : List ℤ) → T (mild n k e ss) → n ≤ length t → k * total n t + e < 536870912
    → (kept n ss t ≡ true) × Reaches n k e t (run step ss t)
unfolding mild total
weights n k e ss t h room small =
    let test : Step → List Form → Bool = λ s d. both (placed n s) (calm k e s d) in
    let last = ends n k e (run weigh ss (units n)) in
    let walk = checks weigh test ss (units n) in
    let h₁ = b₁ (leb 16384 k) (both (every (placed n) ss) (both walk last)) h in
    let h₂ = b₂ (leb 16384 k) (both (every (placed n) ss) (both walk last)) h in
    let places = b₁ (every (placed n) ss) (both walk last) h₂ in
    let h₃ = b₂ (every (placed n) ss) (both walk last) h₂ in
    let r =
    checks_sound step (λ s u. fits s u ≡ true) weigh test (Beside n (λ i. get_or t i (pos 0))) (calm_step n k e (λ i. get_or t i (pos 0)) small) ss (units n) t
    (b₁ walk last h₃) (beside_units n t room) in (
      kept_fits n ss t places room (start_short n k e t (leb→le 16384 k h₁) small) ∙ ok_passes step fits ss t r.0,
      ends_reach n k e t (run step ss t) (run weigh ss (units n)) (b₂ walk last h₃) r.1,
    )
