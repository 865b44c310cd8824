-- The inverse DCT of 2^n numbers. Specification §8.7.1.2 (the permutation) and §8.7.1.3 (the process, with its steps 2 to 7).
use Rattle.std.specs.Prelude.{true, false, not, List, [], ◌∷◌, ℕ, zero, suc, ◌+◌, ◌-◌, ◌*◌, ◌/◌, ◌%◌, ◌^◌, leb, eqb, ℤ, pos, ◌+ℤ◌, ◌-ℤ◌}
use Rattle.whole.specs.Steps.{run, each, when, ◌⨾◌}
use Rattle.primitives.specs.Brev.{Brev}
use Rattle.steps.specs.Step.{Step, Bf, Hd, Move, step}

-- one turn of the loop of step 2; here and below n0 is 2^n, and n1, n2, n3 of the specification are its half, quarter and eighth
abbrev pub turn2 : ℕ → ℕ → List Step
turn2 n0 i = Bf (n0 / 2 + i) (n0 - 1 - i) (pos 32 -ℤ pos (Brev 5 (n0 / 2 + i))) false ∷ []

-- one turn of step 3
abbrev pub turn3 : ℕ → ℕ → ℕ → List Step
turn3 n0 i j = Hd (n0 / 2 + 4 * i + 2 * j) (n0 / 2 + 1 + 4 * i + 2 * j) (not (eqb j 0)) ∷ []

-- one turn of step 4a
abbrev pub turn4a : ℕ → ℕ → ℕ → ℕ → List Step
turn4a n n0 i j = Bf (n0 - n + 3 - n0 / 4 * j - 4 * i) (n0 / 2 + n - 4 + n0 / 4 * j + 4 * i) (pos 28 -ℤ pos (16 * i) +ℤ pos (56 * j)) true ∷ []

-- one turn of step 4b
abbrev pub turn4b : ℕ → ℕ → ℕ → List Step
turn4b n0 i j = Hd (n0 / 2 + n0 / 8 * j + i) (n0 / 2 + n0 / 4 - 5 + n0 / 8 * j - i) (not (eqb (j % 2) 0)) ∷ []

-- one turn of step 5a
abbrev pub turn5a : ℕ → ℕ → ℕ → ℕ → List Step
turn5a n n0 i j = Bf (n0 - n + 2 - i - n0 / 4 * j) (n0 / 2 + n - 3 + i + n0 / 4 * j) (pos (24 + 48 * j)) true ∷ []

-- one turn of step 5b
abbrev pub turn5b : ℕ → ℕ → ℕ → List Step
turn5b n0 i j = Hd (n0 / 2 + n0 / 4 * j + i) (n0 / 2 + n0 / 4 - 1 + n0 / 4 * j - i) (not (eqb (j % 2) 0)) ∷ []

-- one turn of step 6
abbrev pub turn6 : ℕ → ℕ → List Step
turn6 n0 i = Bf (n0 - n0 / 8 - 1 - i) (n0 / 2 + n0 / 8 + i) (pos 16) true ∷ []

-- one turn of step 7
abbrev pub turn7 : ℕ → ℕ → List Step
turn7 n0 i = Hd i (n0 - 1 - i) false ∷ []

-- step 2
unfoldable pub steps2 : ℕ → List Step
steps2 n0 = each (n0 / 4) (turn2 n0)

-- step 3, for n of 3 or more
unfoldable pub steps3 : ℕ → ℕ → List Step
steps3 n n0 = when (leb 3 n) (each (n0 / 8) (λ i. each 2 (turn3 n0 i)))

-- step 4, for n = 5: 4a, then 4b
unfoldable pub steps4 : ℕ → ℕ → List Step
steps4 n n0 = when (eqb n 5) (each 2 (λ i. each 2 (turn4a n n0 i)) ⨾ each 2 (λ i. each 4 (turn4b n0 i)))

-- step 5, for n of 4 or more: 5a, whose i is 0 for n = 4 and 0 to 1 for n = 5, then 5b, whose i is 0 to 2n - 7
unfoldable pub steps5 : ℕ → ℕ → List Step
steps5 n n0 = when (leb 4 n) (each (n / 5 + 1) (λ i. each 2 (turn5a n n0 i)) ⨾ each (2 * n - 6) (λ i. each 2 (turn5b n0 i)))

-- step 6, for n of 3 or more
unfoldable pub steps6 : ℕ → ℕ → List Step
steps6 n n0 = when (leb 3 n) (each (n0 / 8) (turn6 n0))

-- step 7
unfoldable pub steps7 : ℕ → List Step
steps7 n0 = each (n0 / 2) (turn7 n0)

-- steps 2 to 7
unfoldable pub tail_at : ℕ → ℕ → List Step
tail_at n n0 = steps2 n0 ⨾ steps3 n n0 ⨾ steps4 n n0 ⨾ steps5 n n0 ⨾ steps6 n n0 ⨾ steps7 n0

-- the same, with n0 = 2^n put in
unfoldable pub tail : ℕ → List Step
tail n = tail_at n (2 ^ n)

-- the process of §8.7.1.3: for n above 2 first that of n - 1, for n = 2 first B(0, 1, 16, 1), which stands here as the process of 1; then steps 2 to 7
unfoldable pub dct_steps : ℕ → List Step
dct_steps zero = []
dct_steps (suc zero) = Bf 0 1 (pos 16) true ∷ []
dct_steps (suc (suc k)) = dct_steps (suc k) ⨾ tail (suc (suc k))

-- the permutation of §8.7.1.2, then the process
unfoldable pub dct_row : ℕ → List Step
dct_row n = Move (2 ^ n) (Brev n) ∷ dct_steps n

-- T after the inverse DCT of its first 2^n numbers
unfoldable pub dct : ℕ → List ℤ → List ℤ
dct n t = run step (dct_row n) t
