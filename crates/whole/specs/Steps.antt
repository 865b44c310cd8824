-- A process as a list of steps over any state: which steps, and what they do in their order.
use Rattle.std.specs.Prelude.{Bool, true, false, List, [], ◌∷◌, ◌++◌, ℕ, zero, suc}

-- f 0, f 1, .., f (k - 1), joined
unfoldable pub each : {A : Type 0} → ℕ → (ℕ → List A) → List A
each zero f = []
each (suc k) f = each k f ++ f k

-- the steps, where the test holds
unfoldable pub when : {A : Type 0} → Bool → List A → List A
when true ss = ss
when false ss = []

-- first these, then those
infixr 60 ◌⨾◌
abbrev pub ◌⨾◌ : {A : Type 0} → List A → List A → List A
xs ⨾ ys = xs ++ ys

-- the steps ss, in their order, from t
unfoldable pub run : {A S : Type 0} → (A → S → S) → List A → S → S
run step [] t = t
run step (s ∷ ss) t = run step ss (step s t)
