-- The eleven classes of a token, by its magnitude: 0, 1, 2, 3, 4, 5 to 6, 7 to 10, 11 to 18, 19 to 34, 35 to 66, 67 and up.
use Rattle.std.specs.Prelude.{Bool, cond, ◌&&◌, ◌||◌, List, [], ◌∷◌, ℕ, zero, suc, ◌+◌, leb, ltb, eqb, ℤ, pos, nat_abs, get_or}

-- how many classes there are
abbrev pub CLASSES : ℕ
CLASSES = 11

-- the least magnitude of each class
abbrev pub leasts : List ℕ
leasts = 0 ∷ 1 ∷ 2 ∷ 3 ∷ 4 ∷ 5 ∷ 7 ∷ 11 ∷ 19 ∷ 35 ∷ 67 ∷ []

-- and of class c
abbrev pub least : ℕ → ℕ
least c = get_or leasts c 0

-- a magnitude of class c: from its least on, and below the least of the next; the last class has no end
unfoldable pub in_class : ℕ → ℕ → Bool
in_class c m = leb (least c) m && (eqb c 10 || ltb m (least (suc c)))

-- f 0 + f 1 + .. + f (n − 1)
unfoldable pub sum_below : (ℕ → ℕ) → ℕ → ℕ
sum_below f zero = 0
sum_below f (suc n) = sum_below f n + f n

-- what a token adds to class c: f of its magnitude, and 0 where it is of another class
unfoldable pub share : (ℕ → ℕ) → ℕ → ℤ → ℕ
share f c t = cond (in_class c (nat_abs t)) (f (nat_abs t)) 0

-- what the first n tokens add to class c
unfoldable pub shares : (ℕ → ℕ) → ℕ → ℕ → List ℤ → ℕ
shares f c n tokens = sum_below (λ i. share f c (get_or tokens i (pos 0))) n

-- counting: each token is one
abbrev pub one : ℕ → ℕ
one m = 1

-- summing: each token is its magnitude
abbrev pub itself : ℕ → ℕ
itself m = m
