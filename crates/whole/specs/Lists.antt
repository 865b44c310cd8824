-- Lists made by a rule.
use Rattle.std.specs.Prelude.{List, [], ◌∷◌, ℕ, zero, suc, get_or, set}

-- f 0, f 1, .., f (n - 1)
unfoldable pub tabulate : {A : Type 0} → (ℕ → A) → ℕ → List A
tabulate f zero = []
tabulate f (suc n) = f 0 ∷ tabulate (λ k. f (suc k)) n

-- the first k places of u become g 0, g 1, .., g (k - 1)
unfoldable pub fill : {A : Type 0} → ℕ → (ℕ → A) → List A → List A
fill zero g u = u
fill (suc k) g u = set (fill k g u) k (g k)

-- T[i] = copyT[f i] for i < k; z stands for what is past the end
unfoldable pub move : {A : Type 0} → A → ℕ → (ℕ → ℕ) → List A → List A
move z k f t = fill k (λ i. get_or t (f i) z) t
