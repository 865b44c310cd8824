-- Laws of lists of steps: what joined lists do, what a loop has done after i turns, what is left of code in a row, and one theorem for every abstract domain.
use mathlib.Core.Path.{◌≡◌, refl, sym, ap, ◌∙◌, subst}
use mathlib.Core.Logic.{◌⊎◌, inl, inr}
use mathlib.Core.Bool.{Bool, true, false}
use mathlib.Core.List.{List, [], ◌∷◌, ◌++◌}
use Prim.Native.Nat.{ℕ, zero, suc, ◌+◌, ◌≤◌, ◌<◌, zero-le}
use native.Mathlib.Nat as NatL
use native.Mathlib.Numerals.{add-one}
use lib.Dec.{T}
use Rattle.whole.specs.Steps.{each, when, run}
use Rattle.whole.specs.Inner.{Ok, none, next}
use Rattle.whole.proofs.Tests.{both, b₁, b₂}

module _ {A S : Type 0} (step : A → S → S) where
  pub run_join : (xs ys : List A) (t : S) → run step (xs ++ ys) t ≡ run step ys (run step xs t)
  unfolding run
  run_join [] ys t = refl
  run_join (x ∷ xs) ys t = run_join xs ys (step x t)

  -- a loop: before the first turn, after one more, at the end
  pub each_none : (f : ℕ → List A) (t : S) → t ≡ run step (each 0 f) t
  unfolding run each
  each_none f t = refl

  pub each_more : (f : ℕ → List A) (i : ℕ) (t : S) {y z : S} → y ≡ run step (each i f) t → z ≡ run step (f i) y → z ≡ run step (each (i + 1) f) t
  unfolding each
  each_more f i t {y} {z} p q = q ∙ ap (run step (f i)) p ∙ sym (run_join (each i f) (f i) t) ∙ rw add-one

  pub each_done : (f : ℕ → List A) (i n : ℕ) (t : S) {y : S} → i ≤ n → n ≤ i → y ≡ run step (each i f) t → y ≡ run step (each n f) t
  each_done f i n t p q e = rw (NatL.le_antisymm q p) e

  pub run_when : {c : Bool} (ss : List A) (t : S) → c ≡ true → run step ss t ≡ run step (when c ss) t
  unfolding when
  run_when ss t e = rw e

  pub run_skip : {c : Bool} (ss : List A) (t : S) → c ≡ false → t ≡ run step (when c ss) t
  unfolding when run
  run_skip ss t e = rw e

module _ {A S : Type 0} {step : A → S → S} {Fine : A → S → Type 0} where
  pub ok_here : {s : A} {ss : List A} {t : S} → Ok step Fine (s ∷ ss) t → Fine s t
  ok_here (next f r) = f

  pub ok_rest : {s : A} {ss : List A} {t : S} → Ok step Fine (s ∷ ss) t → Ok step Fine ss (step s t)
  ok_rest (next f r) = r

  pub ok_join : (xs ys : List A) {t : S} → Ok step Fine (xs ++ ys) t → Ok step Fine xs t × Ok step Fine ys (run step xs t)
  unfolding run
  ok_join [] ys h = (none, h)
  ok_join (x ∷ xs) ys h = let r = ok_join xs ys (ok_rest h) in (next (ok_here h) r.0, r.1)

  pub ok_at : {ss : List A} {t u : S} → u ≡ t → Ok step Fine ss t → Ok step Fine ss u
  ok_at {ss} e h = subst (Ok step Fine ss) (sym e) h

  pub ok_when : {c : Bool} (ss : List A) {t : S} → c ≡ true → Ok step Fine (when c ss) t → Ok step Fine ss t
  unfolding when
  ok_when ss {t} e h = subst (λ (b : Bool). Ok step Fine (when b ss) t) e h

  pick : (f : ℕ → List A) (t : S) (n k : ℕ) → Ok step Fine (each (suc n) f) t → (k ≤ n → Ok step Fine (each k f) t) → (k ≡ suc n) ⊎ (k < suc n) → Ok step Fine (each k f) t
  pick f t n k h g (inl e) = subst (λ (j : ℕ). Ok step Fine (each j f) t) (sym e) h
  pick f t n k h g (inr l) = g (NatL.le_of_suc-le-suc l)

  first : (f : ℕ → List A) (t : S) (n k : ℕ) → k ≤ n → Ok step Fine (each n f) t → Ok step Fine (each k f) t
  unfolding each
  first f t zero k l h = subst (λ (j : ℕ). Ok step Fine (each j f) t) (NatL.le_antisymm zero-le l) h
  first f t (suc n) k l h = pick f t n k h (λ le. first f t n k le (ok_join (each n f) (f n) h).0) (NatL.eq-or-lt_of_le l)

  -- what turn i of a loop meets
  pub ok_turn : (f : ℕ → List A) {t : S} (n : ℕ) → Ok step Fine (each n f) t → (i : ℕ) → i < n → {y : S} → y ≡ run step (each i f) t → Ok step Fine (f i) y
  unfolding each
  ok_turn f {t} n h i l e = ok_at e (ok_join (each i f) (f i) (first f t n (suc i) l h)).1

-- code in a row: the steps that are left, from here, come to g
pub record Left {A S : Type 0} (step : A → S → S) (Fine : A → S → Type 0) (ss : List A) (t g : S) : Type 0 where
  pub ok : Ok step Fine ss t
  pub ends : run step ss t ≡ g

module _ {A S : Type 0} {step : A → S → S} {Fine : A → S → Type 0} where
  pub left_all : {ss : List A} {t : S} → Ok step Fine ss t → Left step Fine ss t (run step ss t)
  left_all h = record { ok = h; ends = refl }

  pub left_fine : {s : A} {ss : List A} {t g : S} → Left step Fine (s ∷ ss) t g → Fine s t
  left_fine l = ok_here l.ok

  pub left_next : {s : A} {ss : List A} {t u g : S} → Left step Fine (s ∷ ss) t g → u ≡ step s t → Left step Fine ss u g
  unfolding run
  left_next {s} {ss} l e = record { ok = ok_at e (ok_rest l.ok); ends = ap (run step ss) e ∙ l.ends }

  pub left_stage : (xs ys : List A) {t u g : S} → Left step Fine (xs ++ ys) t g → u ≡ run step xs t → Left step Fine ys u g
  left_stage xs ys {t} l e =
      record { ok = ok_at e (ok_join xs ys l.ok).1; ends = ap (run step ys) e ∙ sym (run_join step xs ys t) ∙ l.ends }

  pub left_first : (xs ys : List A) {t g : S} → Left step Fine (xs ++ ys) t g → Ok step Fine xs t
  left_first xs ys l = (ok_join xs ys l.ok).0

  pub left_none : {t g : S} → Left step Fine [] t g → t ≡ g
  unfolding run
  left_none l = l.ends

  pub left_last : {ss : List A} {t u g : S} → Left step Fine ss t g → u ≡ run step ss t → u ≡ g
  left_last l e = e ∙ l.ends

pub ruleset loops = (each_none, each_more, each_done)

-- an abstract domain D beside the states: `after` is what a step does to it, `fine` tests that the step is fine
unfoldable pub checks : {A D : Type 0} → (A → D → D) → (A → D → Bool) → List A → D → Bool
checks after fine [] d = true
checks after fine (s ∷ ss) d = both (fine s d) (checks after fine ss (after s d))

module _ {A S D : Type 0} (step : A → S → S) (Fine : A → S → Type 0) (after : A → D → D) (fine : A → D → Bool) (Holds : D → S → Type 0)
    (one : (s : A) (d : D) (t : S) → T (fine s d) → Holds d t → Fine s t × Holds (after s d) (step s t)) where
  -- THE theorem: ranges, zeros, a row of one number
  pub checks_sound : (ss : List A) (d : D) (t : S) → T (checks after fine ss d) → Holds d t → Ok step Fine ss t × Holds (run after ss d) (run step ss t)
  unfolding checks run
  checks_sound [] d t h k = (none, k)
  checks_sound (s ∷ ss) d t h k =
      let o = one s d t (b₁ (fine s d) (checks after fine ss (after s d)) h) k in
      let r = checks_sound ss (after s d) (step s t) (b₂ (fine s d) (checks after fine ss (after s d)) h) o.1 in
      (next o.0 r.0, r.1)

-- where nothing is tested
module _ {A S D : Type 0} (step : A → S → S) (after : A → D → D) (Holds : D → S → Type 0) (one : (s : A) (d : D) (t : S) → Holds d t → Holds (after s d) (step s t)) where
  pub keeps : (ss : List A) (d : D) (t : S) → Holds d t → Holds (run after ss d) (run step ss t)
  unfolding run
  keeps [] d t h = h
  keeps (s ∷ ss) d t h = keeps ss (after s d) (step s t) (one s d t h)
