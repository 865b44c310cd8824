-- Laws of the condition: joined lists, a prefix, the predicate, and what it says of each step: what the step computes is of 16 bits.
use mathlib.Core.Path.{◌≡◌, refl, sym, subst, ap, ◌∙◌}
use mathlib.Core.Bool.{Bool, true, false, not, ◌&&◌}
use mathlib.Core.List.{List, [], ◌∷◌, ◌++◌}
use Prim.Native.Nat.{ℕ, zero, suc, ◌≤◌, ◌<◌}
use native.Mathlib.Decide.{ℕ_discrete}
use native.Mathlib.Omega.{arith}
use lib.Dec.{T, leb, ltb, eqb, leb→le, ltb→lt, eqb→eq}
use lib.IntN.{ℤ, pos, neg_ℤ, ◌+ℤ◌, ◌-ℤ◌}
use lib.ListN.{length, get_or, set, length-set}
use lib.Seq.{get_or-set_same, get_or-set_other}
use borrow.Author.Tests.{eq-eqb}
use Rattle.whole.specs.Lists.{fill, move}
use Rattle.whole.specs.Steps.{run}
use Rattle.whole.specs.Inner.{Ok, none, next}
use Rattle.whole.proofs.Tests.{both, all_below, b₁, b₂, below}
use Rattle.whole.proofs.Lists.{length_fill}
use Rattle.whole.specs.Round.{Round2}
use Rattle.primitives.specs.Rotations.{set_pair, apply_b, apply_h, turn_x, turn_y}
use Rattle.steps.specs.Step.{Step, Bf, Hd, Neg, Move, A4, Wh, step}
use Rattle.steps.proofs.Places.{every, writes, step_stays}
use Rattle.narrow.specs.Kept.{short, shorts, always, kept}
use Rattle.narrow.specs.Inner.{short_pair, fits_h, fits, passes, fits_all, Fine16}
use Rattle.narrow.proofs.Short.{and_left, and_right}

-- ---- Bool
pub and_true : (a b : Bool) → a ≡ true → b ≡ true → a && b ≡ true
and_true a b e f = rw (e, f)

pub and_yes : (a : Bool) → a && true ≡ a
and_yes true = refl
and_yes false = refl

and_same : (a : Bool) → a && a ≡ a
and_same true = refl
and_same false = refl

and_again : (a b : Bool) → a && (a && b) ≡ a && b
and_again true b = refl
and_again false b = refl

pub and_assoc : (a b c : Bool) → a && (b && c) ≡ a && b && c
and_assoc true b c = refl
and_assoc false b c = refl

and_swap : (a b : Bool) → a && b ≡ b && a
and_swap true true = refl
and_swap true false = refl
and_swap false true = refl
and_swap false false = refl

same_truth : (a b : Bool) → (a ≡ true → b ≡ true) → (b ≡ true → a ≡ true) → a ≡ b
same_truth true b f g = sym (f refl)
same_truth false true f g = g refl
same_truth false false f g = refl

-- ---- a test of all states
module _ {A S : Type 0} (step : A → S → S) (good : S → Bool) where
  pub always_here : (ss : List A) (t : S) → good t && always step good ss t ≡ always step good ss t
  unfolding always
  always_here [] t = and_same (good t)
  always_here (s ∷ ss) t = and_again (good t) (always step good ss (step s t))

  -- of a joined list
  pub always_join : (xs ys : List A) (t : S) → always step good (xs ++ ys) t ≡ always step good xs t && always step good ys (run step xs t)
  unfolding always run
  always_join [] ys t = sym (always_here ys t)
  always_join (x ∷ xs) ys t =
      ap (λ (b : Bool). good t && b) (always_join xs ys (step x t)) ∙ and_assoc (good t) (always step good xs (step x t)) (always step good ys (run step xs (step x t)))

  -- at the start
  pub always_start : (ss : List A) (t : S) → always step good ss t ≡ true → good t ≡ true
  always_start ss t e = and_left (good t) (always step good ss t) (always_here ss t ∙ e)

  -- a test of each step in the place of the test of each state
  module _ (fits : A → S → Bool) (In : S → Type 0) (p : A → Bool)
      (one : (s : A) (t : S) → T (p s) → In t → good t ≡ true → (good (step s t) ≡ fits s t) × In (step s t)) where
    rest : (ss : List A) (t : S) (b : Bool) → good t ≡ b → (b ≡ true → always step good ss t ≡ passes step fits ss t) → always step good ss t ≡ b && passes step fits ss t
    rest ss t true e f = f refl
    rest ss t false e f = sym (always_here ss t) ∙ rw e

    pub always_passes : (ss : List A) (t : S) → T (every p ss) → In t → good t ≡ true → always step good ss t ≡ passes step fits ss t
    unfolding always passes every
    always_passes [] t h i e = e
    always_passes (s ∷ ss) t h i e =
        let o = one s t (b₁ (p s) (every p ss) h) i e in
        rw e (rest ss (step s t) (fits s t) o.0 (λ k. always_passes ss (step s t) (b₂ (p s) (every p ss) h) o.1 (o.0 ∙ k)))

-- a test of each step, of a joined list
module _ {A S : Type 0} (step : A → S → S) (test : A → S → Bool) where
  pub passes_join : (xs ys : List A) (t : S) → passes step test (xs ++ ys) t ≡ passes step test xs t && passes step test ys (run step xs t)
  unfolding passes run
  passes_join [] ys t = refl
  passes_join (x ∷ xs) ys t =
      ap (λ (b : Bool). test x t && b) (passes_join xs ys (step x t)) ∙ and_assoc (test x t) (passes step test xs (step x t)) (passes step test ys (run step xs (step x t)))

-- ---- the numbers of T
pub shorts_at : (n : ℕ) (t : List ℤ) → shorts n t ≡ true → (i : ℕ) → i < n → short (get_or t i (pos 0)) ≡ true
unfolding shorts
shorts_at zero t e i l = absurd (omega arith)
shorts_at (suc n) t e i l = go (λ h. shorts_at n t (and_right (short (get_or t n (pos 0))) (shorts n t) e) i h) (ℕ_discrete i n)
  where
    go : (i < n → short (get_or t i (pos 0)) ≡ true) → Dec (i ≡ n) → short (get_or t i (pos 0)) ≡ true
    go f (yes q) = rw q (and_left (short (get_or t n (pos 0))) (shorts n t) e)
    go f (no ne) = f (omega arith)

pub shorts_all : (n : ℕ) (t : List ℤ) → ((i : ℕ) → i < n → short (get_or t i (pos 0)) ≡ true) → shorts n t ≡ true
unfolding shorts
shorts_all zero t h = refl
shorts_all (suc n) t h = and_true (short (get_or t n (pos 0))) (shorts n t) (h n (omega arith)) (shorts_all n t (λ i l. h i (omega arith)))

module _ (n : ℕ) (t : List ℤ) (m : n ≤ length t) where
  -- one place more
  shorts_set : (j : ℕ) (v : ℤ) → ((i : ℕ) → i < n → (i ≡ j → ⊥) → short (get_or t i (pos 0)) ≡ true) → short v ≡ true
      → (i : ℕ) → i < n → short (get_or (set t j v) i (pos 0)) ≡ true
  shorts_set j v h e i l = go (ℕ_discrete i j)
    where
      go : Dec (i ≡ j) → short (get_or (set t j v) i (pos 0)) ≡ true
      go (yes q) = rw (q, get_or-set_same t j v (pos 0) (omega arith)) e
      go (no ne) = rw (get_or-set_other t j i v (pos 0) ne) (h i l ne)

  -- two places
  pub set_one : (a : ℕ) (x : ℤ) → a < n → shorts n t ≡ true → shorts n (set t a x) ≡ short x
  set_one a x la e =
      same_truth (shorts n (set t a x)) (short x) (λ k. rw (get_or-set_same t a x (pos 0) (omega arith)) at (shorts_at n (set t a x) k a la))
      (λ k. shorts_all n (set t a x) (shorts_set a x (λ i l ne. shorts_at n t e i l) k))

module _ (n : ℕ) (t : List ℤ) (m : n ≤ length t) where
  pub set_two : (a b : ℕ) (x y : ℤ) → a < n → b < n → (a ≡ b → ⊥) → shorts n t ≡ true → shorts n (set (set t a x) b y) ≡ short_pair x y
  unfolding short_pair
  set_two a b x y la lb ne e =
      let u = set t a x in
      let long : n ≤ length u = rw (length-set t a x) m in
      let v = set u b y in
      same_truth (shorts n v) (short x && short y)
      (λ k. and_true (short x) (short y)
      (rw (get_or-set_other u b a y (pos 0) ne, get_or-set_same t a x (pos 0) (omega arith)) at (shorts_at n v k a la))
      (rw (get_or-set_same u b y (pos 0) (omega arith)) at (shorts_at n v k b lb)))
      (λ k. shorts_all n v
      (shorts_set n u long b y (λ i l nb. shorts_set n t m a x (λ j h na. shorts_at n t e j h) (and_left (short x) (short y) k) i l)
      (and_right (short x) (short y) k)))

  -- a permutation of the first numbers
  pub fill_shorts : (f : ℕ → ℕ) (k : ℕ) → ((i : ℕ) → i < k → f i < n) → shorts n t ≡ true → shorts n (fill k (λ i. get_or t (f i) (pos 0)) t) ≡ true
  unfolding fill
  fill_shorts f zero h e = e
  fill_shorts f (suc k) h e =
      let g : ℕ → ℤ = λ i. get_or t (f i) (pos 0) in
      let u = fill k g t in
      let long : n ≤ length u = rw (length_fill k g t) m in
      let r = fill_shorts f k (λ i l. h i (omega arith)) e in
      shorts_all n (set u k (g k)) (shorts_set n u long k (g k) (λ i l ne. shorts_at n u r i l) (shorts_at n t e (f k) (h k (omega arith))))

-- ---- a step's places are below n, and two of them are not the same; A4 and Wh are of four numbers
unfoldable pub placed : ℕ → Step → Bool
placed n (Bf a b g f) = both (both (ltb a n) (ltb b n)) (not (eqb a b))
placed n (Hd a b f) = both (both (ltb a n) (ltb b n)) (not (eqb a b))
placed n (Neg i) = ltb i n
placed n (Move k f) = both (leb k n) (all_below k (λ i. ltb (f i) n))
placed n A4 = eqb n 4
placed n (Wh k) = eqb n 4

pub record Two (n a b : ℕ) : Type 0 where
  pub la : a < n
  pub lb : b < n
  pub ne : a ≡ b → ⊥

not_eqb : (a b : ℕ) → T (not (eqb a b)) → a ≡ b → ⊥
not_eqb a b t e = subst (λ (x : Bool). T (not x)) (eq-eqb a b e) t

pub two : (n a b : ℕ) → T (both (both (ltb a n) (ltb b n)) (not (eqb a b))) → Two n a b
two n a b h =
    let l = b₁ (both (ltb a n) (ltb b n)) (not (eqb a b)) h in
    record {
      la = ltb→lt a n (b₁ (ltb a n) (ltb b n) l);
      lb = ltb→lt b n (b₂ (ltb a n) (ltb b n) l);
      ne = not_eqb a b (b₂ (both (ltb a n) (ltb b n)) (not (eqb a b)) h);
    }

pub step_shorts : (n : ℕ) (s : Step) (t : List ℤ) → T (placed n s) → n ≤ length t → shorts n t ≡ true → shorts n (step s t) ≡ fits s t
unfolding placed step apply_b apply_h set_pair move fits fits_h short_pair
step_shorts n (Bf a b g false) t h m e =
    let w = two n a b h in
    let p = get_or t a (pos 0) in
    let q = get_or t b (pos 0) in
    set_two n t m a b (Round2 (turn_x p q g) 14) (Round2 (turn_y p q g) 14) w.la w.lb w.ne e
step_shorts n (Bf a b g true) t h m e =
    let w = two n a b h in
    let p = get_or t a (pos 0) in
    let q = get_or t b (pos 0) in
    let x = Round2 (turn_x p q g) 14 in
    let y = Round2 (turn_y p q g) 14 in
    set_two n t m a b y x w.la w.lb w.ne e ∙ and_swap (short y) (short x)
step_shorts n (Hd a b false) t h m e =
    let w = two n a b h in
    let p = get_or t a (pos 0) in
    let q = get_or t b (pos 0) in
    set_two n t m a b (p +ℤ q) (p -ℤ q) w.la w.lb w.ne e
step_shorts n (Hd a b true) t h m e =
    let w = two n a b h in
    let p = get_or t a (pos 0) in
    let q = get_or t b (pos 0) in
    set_two n t m b a (q +ℤ p) (q -ℤ p) w.lb w.la (λ r. w.ne (sym r)) e
step_shorts n (Neg i) t h m e = set_one n t m i (neg_ℤ (get_or t i (pos 0))) (ltb→lt i n h) e
step_shorts n (Move k f) t h m e =
    fill_shorts n t m f k (λ i l. ltb→lt (f i) n (below k (λ j. ltb (f j) n) (b₂ (leb k n) (all_below k (λ j. ltb (f j) n)) h) i l)) e
step_shorts n A4 t h m e = rw (eqb→eq n 4 h)
step_shorts n (Wh k) t h m e = rw (eqb→eq n 4 h)

-- such places are places that are written
pub placed_writes : (n : ℕ) (s : Step) → T (placed n s) → T (writes n s)
unfolding placed writes
placed_writes n (Bf a b g f) h = b₁ (both (ltb a n) (ltb b n)) (not (eqb a b)) h
placed_writes n (Hd a b f) h = b₁ (both (ltb a n) (ltb b n)) (not (eqb a b)) h
placed_writes n (Neg i) h = h
placed_writes n (Move k f) h = b₁ (leb k n) (all_below k (λ i. ltb (f i) n)) h
placed_writes n A4 h = rw (eqb→eq n 4 h) tt
placed_writes n (Wh k) h = rw (eqb→eq n 4 h) tt

-- ---- the condition is the test of each step, for a start of 16 bits
pub kept_fits : (n : ℕ) (ss : List Step) (t : List ℤ) → T (every (placed n) ss) → n ≤ length t → shorts n t ≡ true → kept n ss t ≡ fits_all ss t
unfolding kept
kept_fits n ss t h m e = always_passes step (shorts n) fits (λ u. n ≤ length u) (placed n) one ss t h m e
  where
    one : (s : Step) (u : List ℤ) → T (placed n s) → n ≤ length u → shorts n u ≡ true → (shorts n (step s u) ≡ fits s u) × (n ≤ length (step s u))
    one s u q l k = (step_shorts n s u q l k, rw (step_stays n s u (placed_writes n s q)).long l)

pub kept_here : (n : ℕ) (ss : List Step) (t : List ℤ) → kept n ss t ≡ true → shorts n t ≡ true
unfolding kept
kept_here n ss t e = always_start step (shorts n) ss t e

-- what the leaves ask, one after the other
pub fine_here : (n : ℕ) (s : Step) (t : List ℤ) → n ≤ 32 → T (placed n s) → fits s t ≡ true → Fine16 s t
unfolding placed
fine_here n (Bf a b g f) t l h e = let w = two n a b h in (omega (arith, w.la), omega (arith, w.lb), e)
fine_here n (Hd a b f) t l h e = let w = two n a b h in (omega (arith, w.la), omega (arith, w.lb), e)
fine_here n (Neg i) t l h e = (omega (arith, ltb→lt i n h), e)
fine_here n (Move k f) t l h e = omega (arith, leb→le k n (b₁ (leb k n) (all_below k (λ i. ltb (f i) n)) h))
fine_here n A4 t l h e = e
fine_here n (Wh k) t l h e = e

fits_ok : (n : ℕ) → n ≤ 32 → (ss : List Step) (t : List ℤ) → T (every (placed n) ss) → fits_all ss t ≡ true → Ok step Fine16 ss t
unfolding every passes
fits_ok n l [] t h e = none
fits_ok n l (s ∷ ss) t h e =
    next (fine_here n s t l (b₁ (placed n s) (every (placed n) ss) h) (and_left (fits s t) (fits_all ss (step s t)) e))
    (fits_ok n l ss (step s t) (b₂ (placed n s) (every (placed n) ss) h) (and_right (fits s t) (fits_all ss (step s t)) e))

pub kept_ok : (n : ℕ) → n ≤ 32 → (ss : List Step) (t : List ℤ) → T (every (placed n) ss) → n ≤ length t → kept n ss t ≡ true → Ok step Fine16 ss t
kept_ok n l ss t h m e = fits_ok n l ss t h (sym (kept_fits n ss t h m (kept_here n ss t e)) ∙ e)
