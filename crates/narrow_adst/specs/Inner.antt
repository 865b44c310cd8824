-- What only the contracts of inner functions read: the pieces of the ADST that the code calls one after the other.
use Rattle.std.specs.Prelude.{List, [], ◌∷◌}
use Rattle.whole.specs.Steps.{each, ◌⨾◌}
use Rattle.steps.specs.Step.{Step, Move}
use Rattle.steps.specs.Step2.{Step2}
use Rattle.adst.specs.Adst.{adst_in, adst_out, on_t, eight2, eight3, eight4, eight5, eight6, eight7, eight9, sixteen2, sixteen3, sixteen4, sixteen5, sixteen6, sixteen7, sixteen8, sixteen9, sixteen10, sixteen12}

-- steps 2 and 3 of ADST8
unfoldable pub first8 : List Step2
first8 = each 4 eight2 ⨾ each 4 eight3

-- steps 4 to 7 of ADST8
unfoldable pub next8 : List Step2
next8 = each 2 eight4 ⨾ each 2 eight5 ⨾ on_t (each 2 eight6) ⨾ on_t (each 2 eight7)

-- steps 8 and 9 of ADST8
unfoldable pub last8 : List Step
last8 = Move 8 (adst_out 3) ∷ each 4 eight9

-- step 2 of ADST16
unfoldable pub turns16 : List Step2
turns16 = each 8 sixteen2

-- step 3 of ADST16
unfoldable pub first16 : List Step2
first16 = each 8 sixteen3

-- steps 4 to 6 of ADST16
unfoldable pub next16 : List Step2
next16 = each 4 sixteen4 ⨾ each 4 sixteen5 ⨾ on_t (each 4 sixteen6)

-- steps 7 to 9 of ADST16
unfoldable pub more16 : List Step2
more16 = each 2 (λ i. each 2 (sixteen7 i)) ⨾ each 2 (λ j. each 2 (sixteen8 j)) ⨾ on_t (each 2 (λ j. each 2 (sixteen9 j)))

-- steps 10 to 12 of ADST16
unfoldable pub last16 : List Step
last16 = each 2 (λ i. each 2 (sixteen10 i)) ⨾ (Move 16 (adst_out 4) ∷ []) ⨾ each 2 (λ j. each 2 (sixteen12 j))

-- the whole ADST of 8 and of 16 numbers
abbrev pub pieces8 : List (List Step2)
pieces8 = on_t (Move 8 (adst_in 3) ∷ []) ∷ first8 ∷ next8 ∷ on_t last8 ∷ []

abbrev pub pieces16 : List (List Step2)
pieces16 = on_t (Move 16 (adst_in 4) ∷ []) ∷ turns16 ∷ first16 ∷ next16 ∷ more16 ∷ on_t last16 ∷ []
