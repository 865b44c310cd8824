-- Computed tests: what `both` gives, what holds of each place below n, of each number of a list, and `anyBelow` as a scan builds it up.
use mathlib.Core.Path.{◌≡◌, refl, sym, subst}
use mathlib.Core.Bool.{Bool, true, false, ◌||◌}
use mathlib.Core.Logic.{◌⊎◌, inl, inr, ⊎_elim}
use mathlib.Core.List.{List, [], ◌∷◌}
use Prim.Native.Nat.{ℕ, zero, suc, ◌+◌, ◌<◌}
use native.Mathlib.Nat as NatL
use native.Mathlib.Numerals.{add-one}
use native.Mathlib.Omega.{arith}
use lib.Dec.{T, leb}
use lib.IntN.{ℤ, nat_abs}
use Rattle.whole.specs.Tests.{any_below}

-- both hold
abbrev pub both : Bool → Bool → Bool
both true b = b
both false b = false

-- every k below n has p
abbrev pub all_below : ℕ → (ℕ → Bool) → Bool
all_below zero p = true
all_below (suc n) p = both (p n) (all_below n p)

-- every number of the list is within m
abbrev pub every_within : ℕ → List ℤ → Bool
every_within m [] = true
every_within m (z ∷ zs) = both (leb (nat_abs z) m) (every_within m zs)

pub b₁ : (a b : Bool) → T (both a b) → T a
b₁ true b t = tt
b₁ false b t = t

pub b₂ : (a b : Bool) → T (both a b) → T b
b₂ true b t = t
b₂ false b t = absurd t

-- what a computed test of every place below n says of one
pick : (n : ℕ) (p : ℕ → Bool) (i : ℕ) → T (p n) → (i < n → T (p i)) → (i ≡ n) ⊎ (i < n) → T (p i)
pick n p i t f (inl e) = subst (λ (k : ℕ). T (p k)) (sym e) t
pick n p i t f (inr l) = f l

pub below : (n : ℕ) (p : ℕ → Bool) → T (all_below n p) → (i : ℕ) → i < n → T (p i)
below zero p t i h = absurd (omega arith)
below (suc n) p t i h =
    pick n p i (b₁ (p n) (all_below n p) t) (λ l. below n p (b₂ (p n) (all_below n p) t) i l) (NatL.eq-or-lt_of_le (NatL.le_of_suc-le-suc h))

-- a scan: nothing yet, one place more, a hit; and what a failed scan says of each place
pub any_none : (p : ℕ → Bool) → any_below p 0 ≡ false
unfolding any_below
any_none p = refl

pub any_more : (p : ℕ → Bool) (i : ℕ) → any_below p i ≡ false → p i ≡ false → any_below p (i + 1) ≡ false
unfolding any_below
any_more p i h e = rw (add-one, e) h

or_true : (b : Bool) {t : Bool} → t ≡ true → b || t ≡ true
or_true true e = refl
or_true false e = e

by_cases : (b : Bool) → (b ≡ true → b ≡ false) → b ≡ false
by_cases true f = f refl
by_cases false f = refl

pub any_hit : (p : ℕ → Bool) (k n : ℕ) → k < n → p k ≡ true → any_below p n ≡ true
unfolding any_below
any_hit p k zero l e = absurd (omega arith)
any_hit p k (suc n) l e =
    ⊎_elim (λ (q : k ≡ n). let f : p n ≡ true = cc in rw f) (λ q. or_true (p n) (any_hit p k n q e)) (NatL.eq-or-lt_of_le {n = k} {m = n} (omega arith))

pub any_at : (p : ℕ → Bool) (n k : ℕ) → any_below p n ≡ false → k < n → p k ≡ false
any_at p n k h l = by_cases (p k) (λ e. cc (any_hit p k n l e))
