-- What only the contracts of inner functions read: the pieces of the DCT that the code calls one after the other.
use Rattle.std.specs.Prelude.{List, [], ◌∷◌, ℕ, ◌^◌}
use Rattle.whole.specs.Steps.{each, ◌⨾◌}
use Rattle.primitives.specs.Brev.{Brev}
use Rattle.steps.specs.Step.{Step, Move}
use Rattle.dct.specs.Dct.{turn4a, turn4b, turn5a, turn5b, steps2, steps3, steps6, steps7, tail, dct_steps}

-- steps 2 to 5a for n = 4
unfoldable pub first4 : List Step
first4 = steps2 16 ⨾ steps3 4 16 ⨾ each 1 (λ i. each 2 (turn5a 4 16 i))

-- steps 5b to 7 for n = 4
unfoldable pub last4 : List Step
last4 = each 2 (λ i. each 2 (turn5b 16 i)) ⨾ steps6 4 16 ⨾ steps7 16

-- step 2 for n = 5
unfoldable pub turns5 : List Step
turns5 = steps2 32

-- steps 3 and 4a for n = 5
unfoldable pub first5 : List Step
first5 = steps3 5 32 ⨾ each 2 (λ i. each 2 (turn4a 5 32 i))

-- steps 4b and 5a for n = 5
unfoldable pub next5 : List Step
next5 = each 2 (λ i. each 4 (turn4b 32 i)) ⨾ each 2 (λ i. each 2 (turn5a 5 32 i))

-- steps 5b and 6 for n = 5
unfoldable pub last5 : List Step
last5 = each 4 (λ i. each 2 (turn5b 32 i)) ⨾ steps6 5 32

-- step 7 for n = 5
unfoldable pub sums5 : List Step
sums5 = steps7 32

-- the permutation of n, and the steps that are the same for every n
abbrev pub start : ℕ → List (List Step) → List (List Step)
start n rest = (Move (2 ^ n) (Brev n) ∷ []) ∷ dct_steps 2 ∷ tail 3 ∷ rest

-- the whole DCT of 8, 16 and 32 numbers
abbrev pub pieces8 : List (List Step)
pieces8 = start 3 []

abbrev pub pieces16 : List (List Step)
pieces16 = start 4 (first4 ∷ last4 ∷ [])

abbrev pub pieces32 : List (List Step)
pieces32 = start 5 (first4 ∷ last4 ∷ turns5 ∷ first5 ∷ next5 ∷ last5 ∷ sums5 ∷ [])
