-- Several lists in one, so that what changes in a run is one list.
use Rattle.std.specs.Prelude.{List, ◌∷◌, ◌++◌, ℕ, length, get_or, take, drop}

-- two lists in one: how long the first is, the first, the second
unfoldable pub both : List ℕ → List ℕ → List ℕ
both a b = length a ∷ (a ++ b)

unfoldable pub first : List ℕ → List ℕ
first l = take (get_or l 0 0) (drop 1 l)

unfoldable pub second : List ℕ → List ℕ
second l = drop (get_or l 0 0) (drop 1 l)

-- samples, counts and sums in one
abbrev pub beside : List ℕ → List ℕ → List ℕ → List ℕ
beside samples counts sums = both samples (both counts sums)

abbrev pub samples_in : List ℕ → List ℕ
samples_in l = first l

abbrev pub counts_in : List ℕ → List ℕ
counts_in l = first (second l)

abbrev pub sums_in : List ℕ → List ℕ
sums_in l = second (second l)
