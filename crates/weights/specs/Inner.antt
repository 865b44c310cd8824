-- What only proofs and the contracts of inner functions read: the magnitudes of a list, added up; a line that stays within 16 bits.
use Rattle.std.specs.Prelude.{◌≡◌, true, List, ℕ, zero, suc, ◌+◌, ℤ, pos, nat_abs, get_or}
use Rattle.blocks.specs.Inverse.{Pass}
use Rattle.weights.specs.Line.{kept_line}

-- f 0 + f 1 + .. + f (n - 1)
unfoldable pub sum : ℕ → (ℕ → ℕ) → ℕ
sum zero f = 0
sum (suc n) f = f 0 + sum n (λ i. f (suc i))

-- the magnitudes of the first n numbers, added up
unfoldable pub total : ℕ → List ℤ → ℕ
total n s = sum n (λ i. nat_abs (get_or s i (pos 0)))

-- every number of the line is of 16 bits on its whole way
abbrev pub Keeps : Pass → ℕ → List ℤ → Type 0
Keeps p n t = kept_line p n t ≡ true
