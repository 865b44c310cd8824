-- Code in a row over T and S that is tried: T stays of 16 bits and S bounded as far as it has passed.
use mathlib.Core.Path.{◌≡◌, refl, sym, ap, subst, ◌∙◌}
use mathlib.Core.Bool.{Bool, true, false, not}
use mathlib.Core.List.{List, [], ◌∷◌}
use Prim.Native.Nat.{ℕ, zero, suc, ◌≤◌, ◌<◌}
use native.Mathlib.Omega.{arith}
use lib.Dec.{T}
use lib.IntN.{ℤ, pos}
use lib.ListN.{length, get_or, replicate}
use borrow.Author.Tests.{not-false}
use Rattle.whole.specs.Inner.{AllWithin}
use Rattle.whole.proofs.Tests.{b₁, b₂}
use Rattle.whole.proofs.Within.{table_within}
use Rattle.steps.specs.Step.{Step, Move, A4, step}
use Rattle.steps.specs.Step2.{Arrays, Step2, on, SB, step2}
use Rattle.steps.proofs.Places.{every}
use Rattle.adst.specs.Inner.{arrays}
use Rattle.narrow.specs.Kept.{shorts, kept2}
use Rattle.narrow.specs.Inner.{fits, fits2, passes, fits_all, reach}
use Rattle.narrow.proofs.Kept2.{placed2, Good2, step2_good, kept2_fits}
use Rattle.narrow.proofs.Tried.{Tried, Told, begin, sure, told_fits, stopped}

pub zeros_near : AllWithin reach (replicate 16 (pos 0))
zeros_near = record { each = table_within reach (replicate 16 (pos 0)) tt }

every_at : {A : Type 0} (p : A → Bool) (ss : List A) (a : A) (k : ℕ) → T (every p ss) → k < length ss → T (p (get_or ss k a))
unfolding every
every_at p [] a k h l = absurd (omega arith)
every_at p (s ∷ ss) a zero h l = b₁ (p s) (every p ss) h
every_at p (s ∷ ss) a (suc k) h l = every_at p ss a k (b₂ (p s) (every p ss) h) (omega arith)

pub record Safe (n : ℕ) (ss : List Step2) (k : ℕ) : Type 0 where
  pub tried : Tried step2 fits2 ss k
  pub good : Good2 n tried.here
  pub asks : kept2 n ss tried.start ≡ passes step2 fits2 ss tried.start

module _ {n : ℕ} {ss : List Step2} (h : T (every (placed2 n) ss)) where
  -- before the first call
  abbrev pub safe_begin : (t : List ℤ) → n ≤ length t → shorts n t ≡ true → Safe n ss 0
  safe_begin t m e =
      let u = arrays t (replicate 16 (pos 0)) in
      record { tried = begin u; good = record { long = m; low = e; near = zeros_near }; asks = kept2_fits n ss u h m e }

  pub still_good : {k : ℕ} {u : Arrays} (d : Safe n ss k) → k < length ss → fits2 (get_or ss k (on A4)) d.tried.here ≡ true
      → u ≡ step2 (get_or ss k (on A4)) d.tried.here → Good2 n u
  still_good {k} d l e q =
      subst (Good2 n) (sym q) (step2_good n (get_or ss k (on A4)) d.tried.here (every_at (placed2 n) ss (on A4) k h l) d.good e)

  -- call k does its step, which fits
  abbrev pub safe_sure : {k : ℕ} {u : Arrays} (d : Safe n ss k) → k < length ss → fits2 (get_or ss k (on A4)) d.tried.here ≡ true
      → u ≡ step2 (get_or ss k (on A4)) d.tried.here → Safe n ss (suc k)
  safe_sure {k} {u} d l e q = record { tried = sure (on A4) d.tried l e q; good = still_good d l e q; asks = d.asks }

  -- call k passed
  abbrev pub safe_next : {k : ℕ} {u : Arrays} {r : Bool} (d : Safe n ss k) → k < length ss → Told step2 fits2 (get_or ss k (on A4)) d.tried.here r u → not r ≡ false
      → Safe n ss (suc k)
  safe_next {k} {u} {r} d l o e = safe_sure d l (told_fits (on A4) d.tried o e) (o.1 (not-false r e))

-- call k failed: the function answers b, which is false, and promises nothing else
pub safe_stop : {n : ℕ} {ss : List Step2} {X : Type 0} {v w : X} {k : ℕ} {u : Arrays} {r b : Bool} (d : Safe n ss k) → k < length ss → b ≡ kept2 n ss d.tried.start
    → Told step2 fits2 (get_or ss k (on A4)) d.tried.here r u → not r ≡ true → (false ≡ b) × (false ≡ true → v ≡ w)
safe_stop d l q o e = stopped (on A4) d.tried l (q ∙ d.asks) o e

-- ---- a step of T alone
pub on_T : (s : Step2) {x : Step} {u : List ℤ} (v : Arrays) → s ≡ on x → u ≡ step x v.T → arrays u v.S ≡ step2 s v
unfolding step2
on_T s v e p = rw e (ap (λ (t : List ℤ). arrays t v.S) p)

pub fits_T : (s : Step2) {x : Step} (v : Arrays) → s ≡ on x → fits x v.T ≡ true → fits2 s v ≡ true
unfolding fits2
fits_T s v e p = rw e p

pub told_T : (s : Step2) {x : Step} {u : List ℤ} {r : Bool} (v : Arrays) → s ≡ on x → Told step fits x v.T r u → Told step2 fits2 s v r (arrays u v.S)
unfolding fits2
told_T s v e o = (rw e o.0, λ q. on_T s v e (o.1 q))

module _ {n : ℕ} {ss : List Step2} (h : T (every (placed2 n) ss)) where
  abbrev pub sure_T : {x : Step} {k : ℕ} {u : List ℤ} (d : Safe n ss k) → k < length ss → get_or ss k (on A4) ≡ on x → fits x d.tried.here.T ≡ true
      → u ≡ step x d.tried.here.T → Safe n ss (suc k)
  sure_T {x} {k} d l e f p = safe_sure h d l (fits_T (get_or ss k (on A4)) d.tried.here e f) (on_T (get_or ss k (on A4)) d.tried.here e p)

  abbrev pub pass_T : {x : Step} {k : ℕ} {u : List ℤ} {r : Bool} (d : Safe n ss k) → k < length ss → get_or ss k (on A4) ≡ on x → Told step fits x d.tried.here.T r u
      → not r ≡ false → Safe n ss (suc k)
  pass_T {x} {k} d l e o q = safe_next h d l (told_T (get_or ss k (on A4)) d.tried.here e o) q

pub stop_T : {n : ℕ} {ss : List Step2} {X : Type 0} {v w : X} {x : Step} {k : ℕ} {u : List ℤ} {r b : Bool} (d : Safe n ss k) → k < length ss
    → b ≡ kept2 n ss d.tried.start → get_or ss k (on A4) ≡ on x → Told step fits x d.tried.here.T r u → not r ≡ true → (false ≡ b) × (false ≡ true → v ≡ w)
stop_T {ss = ss} {k = k} d l q e o f = safe_stop d l q (told_T (get_or ss k (on A4)) d.tried.here e o) f

-- ---- steps that always fit
pub free_move : (k : ℕ) (f : ℕ → ℕ) (t : List ℤ) → fits (Move k f) t ≡ true
unfolding fits
free_move k f t = refl

pub free_part : (k : ℕ) (f : ℕ → ℕ) (t : List ℤ) → fits_all (Move k f ∷ []) t ≡ true
unfolding passes fits
free_part k f t = refl

pub free_SB : (a b : ℕ) (g : ℤ) (f : Bool) (u : Arrays) → fits2 (SB a b g f) u ≡ true
unfolding fits2
free_SB a b g f u = refl
