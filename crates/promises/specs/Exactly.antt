-- An answer beside the conditions of its numbers: when, and only when.
use Rattle.std.specs.Prelude.{◌≡◌, List, ℕ, suc, ◌<◌, get_or}

-- `When k` is the condition of number k
pub record Exactly (When : ℕ → Type 0) (answer : ℕ) : Type 0 where
  -- k is given when its condition holds and no lower one does, and only then
  pub when : (k : ℕ) → When k → ((j : ℕ) → j < k → When j → ⊥) → answer ≡ k
  pub only_when : (k : ℕ) → answer ≡ suc k → When (suc k) × ((j : ℕ) → j < suc k → When j → ⊥)
  -- 0 is given when no condition holds, and only then
  pub done : ((k : ℕ) → When k → ⊥) → answer ≡ 0
  pub only_done : answer ≡ 0 → (k : ℕ) → When k → ⊥

-- tests in an order of their own: the first step whose condition holds decides, and `numbers` has the number of each step, 0 for none
pub record InOrder (Step : ℕ → Type 0) (numbers : List ℕ) (answer : ℕ) : Type 0 where
  pub step : ℕ
  pub first : Exactly Step step
  pub numbered : answer ≡ get_or numbers step 0
