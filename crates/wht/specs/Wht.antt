-- The inverse WHT of four numbers at a shift: 2 for rows, 0 for columns. Specification §8.7.1.10; its formulas are `wht4` of `steps`.
use Rattle.std.specs.Prelude.{List, [], ◌∷◌, ℕ, ℤ}
use Rattle.whole.specs.Steps.{run}
use Rattle.steps.specs.Step.{Step, Wh, step}

-- the WHT as a list of one step
unfoldable pub wht_row : ℕ → List Step
wht_row shift = Wh shift ∷ []

-- T after the inverse WHT of its first four numbers
unfoldable pub wht : ℕ → List ℤ → List ℤ
wht shift t = run step (wht_row shift) t
