-- What only the contracts of inner functions read: a range of a whole list, counted loops, and that each step is fine where it is met.
use Rattle.std.specs.Prelude.{List, [], ◌∷◌, ℕ, zero, suc, ℤ, pos, get_or}
use Rattle.whole.specs.Within.{Within}

-- every number of the list is within m
pub record AllWithin (m : ℕ) (l : List ℤ) : Type 0 where
  pub each : (i : ℕ) → Within m (get_or l i (pos 0))

-- x after f 0, f 1, .., f (k - 1), in this order
unfoldable pub times : {A : Type 0} → ℕ → (ℕ → A → A) → A → A
times zero f x = x
times (suc k) f x = f k (times k f x)

-- every step is fine where it is met
pub data Ok {A S : Type 0} (step : A → S → S) (Fine : A → S → Type 0) : List A → S → Type 0 where
  none : {t : S} → Ok step Fine [] t
  next : {s : A} {ss : List A} {t : S} → Fine s t → Ok step Fine ss (step s t) → Ok step Fine (s ∷ ss) t
