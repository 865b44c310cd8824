-- The condition of the 32-bit engine on one line: every number that is loaded into T or stored there is of 16 bits. Numbers in S do not count.
use Rattle.std.specs.Prelude.{Bool, true, ◌&&◌, List, [], ◌∷◌, ℕ, zero, suc, leb, ℤ, pos, get_or}
use Rattle.whole.specs.Parts.{P, N}
use Rattle.steps.specs.Step.{Step, step}
use Rattle.steps.specs.Step2.{Arrays, Step2, step2}

-- −32768 ≤ z ≤ 32767
unfoldable pub short : ℤ → Bool
short z = leb (P z) 32767 && leb (N z) 32768

-- the first n numbers of t are
unfoldable pub shorts : ℕ → List ℤ → Bool
shorts zero t = true
shorts (suc k) t = short (get_or t k (pos 0)) && shorts k t

-- a test of the states: it holds at the start and after each step
unfoldable pub always : {A S : Type 0} → (A → S → S) → (S → Bool) → List A → S → Bool
always step good [] t = good t
always step good (s ∷ ss) t = good t && always step good ss (step s t)

-- the condition over the first n numbers of T, for steps of T alone
unfoldable pub kept : ℕ → List Step → List ℤ → Bool
kept n = always step (shorts n)

-- and for steps of T and S
unfoldable pub kept2 : ℕ → List Step2 → Arrays → Bool
kept2 n = always step2 (λ u. shorts n u.T)
