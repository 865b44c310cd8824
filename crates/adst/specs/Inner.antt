-- What only the contracts of inner functions read: T and S as arrays, and one turn of each stage that ADST8 and ADST16 share.
use Rattle.std.specs.Prelude.{true, false, List, [], ◌∷◌, ℕ, ◌+◌, ◌*◌, ℤ, pos, ◌-ℤ◌, ◌*ℤ◌}
use Rattle.steps.specs.Step.{Step, Hd, Neg}
use Rattle.steps.specs.Step2.{Arrays, Step2, SB, SH}

-- T and S as the two arrays
abbrev pub arrays : List ℤ → List ℤ → Arrays
arrays t s = record { T = t; S = s }

-- neighbours from place a on, the angle first and less by `by` each turn
abbrev pub sb_pair : ℕ → ℤ → ℤ → ℕ → List Step2
sb_pair a first by i = SB (a + 2 * i) (a + 1 + 2 * i) (first -ℤ by *ℤ pos i) true ∷ []

-- the outer two of four numbers from place a on, then the inner two
abbrev pub sb_cross : ℕ → ℕ → List Step2
sb_cross a i = SB (a + 3 * i) (a + 1 + i) (pos 24 -ℤ pos (16 * i)) true ∷ []

-- the two halves of twice `count` numbers from place a on
abbrev pub sh_half : ℕ → ℕ → ℕ → List Step2
sh_half a count i = SH (a + i) (a + count + i) ∷ []

-- the same of T alone
abbrev pub hadamard_half : ℕ → ℕ → ℕ → List Step
hadamard_half a count i = Hd (a + i) (a + count + i) false ∷ []

-- every other number from place a on
abbrev pub negated : ℕ → ℕ → List Step
negated a i = Neg (a + 2 * i) ∷ []
