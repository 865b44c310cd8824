-- The inverse ADST of 2^n numbers, n = 2 to 4. Specification §8.7.1.4 (input permutation), §8.7.1.5 (output permutation), §8.7.1.6 to §8.7.1.9 (the processes).
use Rattle.std.specs.Prelude.{true, false, cond, List, [], ◌∷◌, ℕ, ◌+◌, ◌-◌, ◌*◌, ◌/◌, ◌%◌, ◌^◌, eqb, ℤ, pos, ◌-ℤ◌}
use Rattle.std.specs.Int.Bits.{bit_xor}
use Rattle.whole.specs.Steps.{run, each, ◌⨾◌}
use Rattle.steps.specs.Step.{Step, Bf, Hd, Neg, Move, A4}
use Rattle.steps.specs.Step2.{Step2, on, SB, SH, step2, fresh}

-- the input permutation, §8.7.1.4: where T[k] comes from, T[2i] = copyT[n0 - 1 - 2i] and T[2i + 1] = copyT[2i]
unfoldable pub adst_in : ℕ → ℕ → ℕ
adst_in n k = cond (eqb (k % 2) 0) (2 ^ n - 1 - k) (k - 1)

-- the output permutation of 8 numbers: T[4a + 2b + c] = copyT[4(c ^ b) + 2(b ^ a) + a]
unfoldable pub out8 : ℕ → ℕ
out8 k =
    let a = k / 4 in
    let b = k / 2 % 2 in
    let c = k % 2 in
    4 * bit_xor c b + 2 * bit_xor b a + a

-- the output permutation of 16 numbers: T[8a + 4b + 2c + d] = copyT[8(d ^ c) + 4(c ^ b) + 2(b ^ a) + a]
unfoldable pub out16 : ℕ → ℕ
out16 k =
    let a = k / 8 in
    let b = k / 4 % 2 in
    let c = k / 2 % 2 in
    let d = k % 2 in
    8 * bit_xor d c + 4 * bit_xor c b + 2 * bit_xor b a + a

-- the output permutation, §8.7.1.5, for n = 3 and n = 4: where T[k] comes from
unfoldable pub adst_out : ℕ → ℕ → ℕ
adst_out n k = cond (eqb n 4) (out16 k) (out8 k)

-- one turn of step 2 of ADST8, §8.7.1.7
abbrev pub eight2 : ℕ → List Step2
eight2 i = SB (2 * i) (1 + 2 * i) (pos 30 -ℤ pos (8 * i)) true ∷ []

-- one turn of step 3 of ADST8
abbrev pub eight3 : ℕ → List Step2
eight3 i = SH i (4 + i) ∷ []

-- one turn of step 4 of ADST8
abbrev pub eight4 : ℕ → List Step2
eight4 i = SB (4 + 3 * i) (5 + i) (pos 24 -ℤ pos (16 * i)) true ∷ []

-- one turn of step 5 of ADST8
abbrev pub eight5 : ℕ → List Step2
eight5 i = SH (4 + i) (6 + i) ∷ []

-- one turn of step 6 of ADST8
abbrev pub eight6 : ℕ → List Step
eight6 i = Hd i (2 + i) false ∷ []

-- one turn of step 7 of ADST8
abbrev pub eight7 : ℕ → List Step
eight7 i = Bf (2 + 4 * i) (3 + 4 * i) (pos 16) true ∷ []

-- one turn of step 9 of ADST8
abbrev pub eight9 : ℕ → List Step
eight9 i = Neg (1 + 2 * i) ∷ []

-- one turn of step 2 of ADST16, §8.7.1.8
abbrev pub sixteen2 : ℕ → List Step2
sixteen2 i = SB (2 * i) (1 + 2 * i) (pos 31 -ℤ pos (4 * i)) true ∷ []

-- one turn of step 3 of ADST16
abbrev pub sixteen3 : ℕ → List Step2
sixteen3 i = SH i (8 + i) ∷ []

-- one turn of step 4 of ADST16
abbrev pub sixteen4 : ℕ → List Step2
sixteen4 i = SB (8 + 2 * i) (9 + 2 * i) (pos 28 -ℤ pos (16 * i)) true ∷ []

-- one turn of step 5 of ADST16
abbrev pub sixteen5 : ℕ → List Step2
sixteen5 i = SH (8 + i) (12 + i) ∷ []

-- one turn of step 6 of ADST16
abbrev pub sixteen6 : ℕ → List Step
sixteen6 i = Hd i (4 + i) false ∷ []

-- one turn of step 7 of ADST16
abbrev pub sixteen7 : ℕ → ℕ → List Step2
sixteen7 i j = SB (4 + 8 * i + 3 * j) (5 + 8 * i + j) (pos 24 -ℤ pos (16 * j)) true ∷ []

-- one turn of step 8 of ADST16
abbrev pub sixteen8 : ℕ → ℕ → List Step2
sixteen8 j i = SH (4 + 8 * j + i) (6 + 8 * j + i) ∷ []

-- one turn of step 9 of ADST16
abbrev pub sixteen9 : ℕ → ℕ → List Step
sixteen9 j i = Hd (8 * j + i) (2 + 8 * j + i) false ∷ []

-- one turn of step 10 of ADST16
abbrev pub sixteen10 : ℕ → ℕ → List Step
sixteen10 i j = Bf (2 + 4 * j + 8 * i) (3 + 4 * j + 8 * i) (pos (48 + 64 * bit_xor i j)) false ∷ []

-- one turn of step 12 of ADST16
abbrev pub sixteen12 : ℕ → ℕ → List Step
sixteen12 j i = Neg (1 + 12 * j + 2 * i) ∷ []

-- steps of T alone
unfoldable pub on_t : List Step → List Step2
on_t [] = []
on_t (s ∷ ss) = on s ∷ on_t ss

-- §8.7.1.7, steps 1 to 9; the first and the eighth are the permutations
unfoldable pub adst8_steps : List Step2
adst8_steps =
    on_t (Move 8 (adst_in 3) ∷ [])
    ⨾ each 4 eight2
    ⨾ each 4 eight3
    ⨾ each 2 eight4
    ⨾ each 2 eight5
    ⨾ on_t (each 2 eight6)
    ⨾ on_t (each 2 eight7)
    ⨾ on_t (Move 8 (adst_out 3) ∷ [])
    ⨾ on_t (each 4 eight9)

-- §8.7.1.8, steps 1 to 12; the first and the eleventh are the permutations
unfoldable pub adst16_steps : List Step2
adst16_steps =
    on_t (Move 16 (adst_in 4) ∷ [])
    ⨾ each 8 sixteen2
    ⨾ each 8 sixteen3
    ⨾ each 4 sixteen4
    ⨾ each 4 sixteen5
    ⨾ on_t (each 4 sixteen6)
    ⨾ each 2 (λ i. each 2 (sixteen7 i))
    ⨾ each 2 (λ j. each 2 (sixteen8 j))
    ⨾ on_t (each 2 (λ j. each 2 (sixteen9 j)))
    ⨾ on_t (each 2 (λ i. each 2 (sixteen10 i)))
    ⨾ on_t (Move 16 (adst_out 4) ∷ [])
    ⨾ on_t (each 2 (λ j. each 2 (sixteen12 j)))

-- the process for n, §8.7.1.9: ADST4 is one step
unfoldable pub adst_steps : ℕ → List Step2
adst_steps n = cond (eqb n 2) (on A4 ∷ []) (cond (eqb n 3) adst8_steps adst16_steps)

-- T after the inverse ADST of its first 2^n numbers; S starts as zeros
unfoldable pub adst : ℕ → List ℤ → List ℤ
adst n t = (run step2 (adst_steps n) (fresh t)).T
