-- The places that steps write: all of them below n.
use mathlib.Core.Path.{◌≡◌, refl, ◌∙◌}
use mathlib.Core.Bool.{Bool, true, false}
use mathlib.Core.List.{List, [], ◌∷◌}
use Prim.Native.Nat.{ℕ, ◌≤◌, zero, suc, ◌<◌}
use lib.Dec.{leb, ltb, T, leb→le, ltb→lt}
use lib.IntN.{ℤ, pos}
use lib.ListN.{length, get_or, set, length-set}
use Rattle.whole.proofs.Tests.{both, b₁, b₂}
use Rattle.steps.specs.Step.{Step, Bf, Hd, Neg, Move, A4, Wh, step, adst4, wht4}
use Rattle.steps.specs.Step2.{Step2, on, SB, SH, Arrays, step2}
use native.Mathlib.Nat as NatL
use native.Mathlib.Omega.{arith}
use Rattle.whole.specs.Lists.{fill, move}
use Rattle.whole.specs.Steps.{run}
use Rattle.primitives.specs.Rotations.{set_pair, apply_b, apply_h, apply_sh}

unfoldable pub writes : ℕ → Step → Bool
writes n (Bf a b g f) = both (ltb a n) (ltb b n)
writes n (Hd a b f) = both (ltb a n) (ltb b n)
writes n (Neg i) = ltb i n
writes n (Move k f) = leb k n
writes n A4 = leb 4 n
writes n (Wh k) = leb 4 n

-- of T alone
unfoldable pub writes2 : ℕ → Step2 → Bool
writes2 n (on s) = writes n s
writes2 n (SB a b g f) = true
writes2 n (SH a b) = both (ltb a n) (ltb b n)

unfoldable pub every : {A : Type 0} → (A → Bool) → List A → Bool
every p [] = true
every p (s ∷ ss) = both (p s) (every p ss)

-- t is as long as t₀, and from place n on the same
pub record Stays (n : ℕ) (t₀ t : List ℤ) : Type 0 where
  pub long : length t ≡ length t₀
  pub same : (k : ℕ) → n ≤ k → get_or t k (pos 0) ≡ get_or t₀ k (pos 0)

-- ---- Steps that write below n leave every place from n on, and every step leaves the length.
set_other : (l : List ℤ) (i k : ℕ) (v : ℤ) → i < k → get_or (set l i v) k (pos 0) ≡ get_or l k (pos 0)
set_other [] i k v h = refl
set_other (z ∷ zs) i zero v h = absurd (omega arith)
set_other (z ∷ zs) zero (suc k) v h = refl
set_other (z ∷ zs) (suc i) (suc k) v h = set_other zs i k v (omega arith)

pub stays_all : {n : ℕ} {t : List ℤ} → Stays n t t
stays_all = record { long = refl; same = λ k h. refl }

pub stays_set : {n : ℕ} {t₀ t : List ℤ} (i : ℕ) (v : ℤ) → i < n → Stays n t₀ t → Stays n t₀ (set t i v)
stays_set {n} {t₀} {t} i v h s =
    record { long = length-set t i v ∙ s.long; same = λ k l. set_other t i k v (NatL.lt_of_lt_of_le h l) ∙ s.same k l }

pub stays_then : {n : ℕ} {t₀ t u : List ℤ} → Stays n t₀ t → Stays n t u → Stays n t₀ u
stays_then s r = record { long = r.long ∙ s.long; same = λ k l. r.same k l ∙ s.same k l }

two : {n : ℕ} {t₀ t : List ℤ} (a b : ℕ) (x y : ℤ) → T (both (ltb a n) (ltb b n)) → Stays n t₀ t → Stays n t₀ (set (set t a x) b y)
two {n} a b x y h s = stays_set b y (ltb→lt b n (b₂ (ltb a n) (ltb b n) h)) (stays_set a x (ltb→lt a n (b₁ (ltb a n) (ltb b n) h)) s)

both_swap : (a b : Bool) → T (both a b) → T (both b a)
both_swap true true h = tt
both_swap true false h = h
both_swap false b h = absurd h

four : {n : ℕ} {t : List ℤ} (w x y z : ℤ) → 4 ≤ n → Stays n t (set (set (set (set t 0 w) 1 x) 2 y) 3 z)
four w x y z h = stays_set 3 z (omega arith) (stays_set 2 y (omega arith) (stays_set 1 x (omega arith) (stays_set 0 w (omega arith) stays_all)))

pub stays_fill : (n k : ℕ) (g : ℕ → ℤ) (t : List ℤ) → k ≤ n → Stays n t (fill k g t)
unfolding fill
stays_fill n zero g t h = stays_all
stays_fill n (suc k) g t h = stays_set k (g k) h (stays_fill n k g t (omega arith))

pub step_stays : (n : ℕ) (s : Step) (t : List ℤ) → T (writes n s) → Stays n t (step s t)
unfolding writes step apply_b apply_h set_pair move adst4 wht4
step_stays n (Bf a b g false) t h = two a b _ _ h stays_all
step_stays n (Bf a b g true) t h = two a b _ _ h stays_all
step_stays n (Hd a b false) t h = two a b _ _ h stays_all
step_stays n (Hd a b true) t h = two b a _ _ (both_swap (ltb a n) (ltb b n) h) stays_all
step_stays n (Neg i) t h = stays_set i _ (ltb→lt i n h) stays_all
step_stays n (Move k f) t h = stays_fill n k _ t (leb→le k n h)
step_stays n A4 t h = four _ _ _ _ (leb→le 4 n h)
step_stays n (Wh k) t h = four _ _ _ _ (leb→le 4 n h)

-- entries from n on stay
pub steps_stay : (n : ℕ) (ss : List Step) (t : List ℤ) → T (every (writes n) ss) → Stays n t (run step ss t)
unfolding every run
steps_stay n [] t h = stays_all
steps_stay n (s ∷ ss) t h =
    stays_then (step_stays n s t (b₁ (writes n s) (every (writes n) ss) h)) (steps_stay n ss (step s t) (b₂ (writes n s) (every (writes n) ss) h))

pub step_stays2 : (n : ℕ) (s : Step2) (u : Arrays) → T (writes2 n s) → Stays n u.T (step2 s u).T
unfolding writes2 step2 apply_sh
step_stays2 n (on s) u h = step_stays n s u.T h
step_stays2 n (SB a b g f) u h = stays_all
step_stays2 n (SH a b) u h = two a b _ _ h stays_all

pub steps_stay2 : (n : ℕ) (ss : List Step2) (u : Arrays) → T (every (writes2 n) ss) → Stays n u.T (run step2 ss u).T
unfolding every run
steps_stay2 n [] u h = stays_all
steps_stay2 n (s ∷ ss) u h =
    stays_then (step_stays2 n s u (b₁ (writes2 n s) (every (writes2 n) ss) h))
    (steps_stay2 n ss (step2 s u) (b₂ (writes2 n s) (every (writes2 n) ss) h))
