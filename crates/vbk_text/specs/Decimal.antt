-- A number in decimal, as ASCII bytes, with no zero in front.
use Rattle.std.specs.Prelude.{cond, List, [], ◌∷◌, ◌++◌, ℕ, zero, suc, ◌+◌, ◌/◌, ◌%◌, ltb}

-- n in at most k + 1 digits
abbrev pub decimal_in : ℕ → ℕ → List ℕ
decimal_in zero n = (48 + n) ∷ []
decimal_in (suc k) n = cond (ltb n 10) ((48 + n) ∷ []) (decimal_in k (n / 10) ++ ((48 + n % 10) ∷ []))

-- n has no more than n + 1 digits
unfoldable pub decimal : ℕ → List ℕ
decimal n = decimal_in n n
