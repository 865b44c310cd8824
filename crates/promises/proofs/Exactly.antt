-- A table whose numbers rise gives each number exactly when its condition holds and no lower one does.
use mathlib.Core.Path.{◌≡◌, refl, sym, subst}
use mathlib.Core.Bool.{Bool, true, false}
use mathlib.Core.List.{List, [], ◌∷◌}
use Prim.Native.Nat.{ℕ, suc, ◌-◌, ◌≤◌, ◌<◌}
use native.Mathlib.Decide.{dec_lt}
use native.Mathlib.Omega.{arith}
use lib.Dec.{T}
use lib.ListN.{get_or}
use Rattle.answers.specs.Answers.{lowest}
use Rattle.answers.proofs.Numbers.{rising, Applies, here, there, lowest_least, lowest_applies, lowest_above}
use Rattle.promises.specs.Exactly.{Exactly, InOrder}

-- a test that holds stands for its number's condition
pub data Each (When : ℕ → Type 0) : List (ℕ × Bool) → Type 0 where
  none : Each When []
  more : {n : ℕ} {b : Bool} {ts : List (ℕ × Bool)} → (b ≡ true → When n) → Each When ts → Each When ((n, b) ∷ ts)

from_each : (When : ℕ → Type 0) (ts : List (ℕ × Bool)) → Each When ts → (n : ℕ) → Applies n ts → When n
from_each When (t ∷ ts) (more f e) n here = f refl
from_each When (t ∷ ts) (more f e) n (there a) = from_each When ts e n a
from_each When [] _ n x3 = elim x3 [ ]

-- a condition's test stands first in the rest of the table
pub here_if : (n : ℕ) (b : Bool) (ts : List (ℕ × Bool)) → b ≡ true → Applies n ((n, b) ∷ ts)
here_if n b ts e = rw e here

module _ (When : ℕ → Type 0) (ts : List (ℕ × Bool)) (r : T (rising 0 ts)) (e : Each When ts) (f : (n : ℕ) → When n → Applies n ts) where
  -- the number given has its condition
  given : 0 < lowest ts → When (lowest ts)
  given p =
      let m = lowest ts - 1 in
      let q : lowest ts ≡ suc m = omega arith in
      from_each When ts e (lowest ts) (subst (λ (n : ℕ). Applies n ts) (sym q) (lowest_applies m ts q))

  least : (n : ℕ) → When n → lowest ts ≤ n
  least n w = lowest_least 0 n ts r (f n w)

  not_none : (n : ℕ) → When n → 0 < lowest ts
  not_none n w = lowest_above 0 n ts r (f n w)

  pub exactly : Exactly When (lowest ts)
  exactly =
      record {
        when = λ k w l. at k w l (dec_lt (lowest ts) k);
        only_when = λ k q. (rw q at (given (omega arith)), λ j p w. omega (arith, least j w));
        done = λ h. zero_if h (dec_lt 0 (lowest ts));
        only_done = λ q k w. omega (arith, not_none k w);
      }
    where
      at : (k : ℕ) → When k → ((j : ℕ) → j < k → When j → ⊥) → Dec (lowest ts < k) → lowest ts ≡ k
      at k w l (yes p) = absurd (l (lowest ts) p (given (not_none k w)))
      at k w l (no p) = omega (arith, least k w)

      zero_if : ((k : ℕ) → When k → ⊥) → Dec (0 < lowest ts) → lowest ts ≡ 0
      zero_if h (yes p) = absurd (h (lowest ts) (given p))
      zero_if h (no p) = omega arith

-- ---- tests in an order of their own
abbrev pub renumber : (ℕ → ℕ) → List (ℕ × Bool) → List (ℕ × Bool)
renumber f [] = []
renumber f (t ∷ ts) = (f t.0, t.1) ∷ renumber f ts

renumbered : (f : ℕ → ℕ) (ts : List (ℕ × Bool)) → f 0 ≡ 0 → lowest (renumber f ts) ≡ f (lowest ts)
renumbered f [] e = sym e
renumbered f ((k, true) ∷ ts) e = refl
renumbered f ((k, false) ∷ ts) e = renumbered f ts e

pub in_order : (Step : ℕ → Type 0) (numbers : List ℕ) (ts : List (ℕ × Bool)) → get_or numbers 0 0 ≡ 0 → T (rising 0 ts) → Each Step ts
    → ((n : ℕ) → Step n → Applies n ts) → InOrder Step numbers (lowest (renumber (λ k. get_or numbers k 0) ts))
in_order Step numbers ts z r e f =
    record { step = lowest ts; first = exactly Step ts r e f; numbered = renumbered (λ k. get_or numbers k 0) ts z }

-- a table that follows one test more
pub later : (n : ℕ) (ts : List (ℕ × Bool)) → Applies n ts → Applies (suc n) (renumber suc ts)
later n (t ∷ ts) here = here
later n (t ∷ ts) (there a) = there (later n ts a)
later n [] x' = elim x' [ ]

pub each_later : (When Then : ℕ → Type 0) (ts : List (ℕ × Bool)) → ((n : ℕ) → When n → Then (suc n)) → Each When ts → Each Then (renumber suc ts)
each_later When Then [] f e = none
each_later When Then ((n, b) ∷ ts) f (more g e) = more (λ h. f n (g h)) (each_later When Then ts f e)
