-- What only the contracts inside this crate read.
use Rattle.std.specs.Prelude.{◌≡◌, cond, List, [], ◌∷◌, ℕ, suc, ◌+◌, ◌*◌, ◌/◌, ◌%◌, ◌^◌, ◌≤◌, ◌<◌, eqb, ℤ, pos, nat_abs, length, get_or}
use Rattle.answers.specs.Limits.{codeable}
use Rattle.report.specs.Classes.{CLASSES, shares}

-- an answer, and 15 where it would be 0
abbrev pub or_fifteen : ℕ → ℕ
or_fifteen a = cond (eqb a 0) 15 a

-- the least magnitude of each class, and past the last what no u64 reaches
abbrev pub edges : List ℕ
edges = 0 ∷ 1 ∷ 2 ∷ 3 ∷ 4 ∷ 5 ∷ 7 ∷ 11 ∷ 19 ∷ 35 ∷ 67 ∷ 18446744073709551616 ∷ []

-- c is the class of m
pub record IsClass (m c : ℕ) : Type 0 where
  pub known : c < 11
  pub from : get_or edges c 0 ≤ m
  pub below : m < get_or edges (suc c) 0

-- a list of the report has grown by what the tokens from `from` on, before `to`, add to the classes of the size
pub record Noted (f : ℕ → ℕ) (size from to : ℕ) (tokens : List ℤ) (before after : List ℕ) : Type 0 where
  pub as_long : length after ≡ length before
  pub grown : (k : ℕ) → k < length before
      → get_or after k 0 + cond (eqb (k / CLASSES) size) (shares f (k % CLASSES) from tokens) 0 ≡ get_or before k 0 + cond (eqb (k / CLASSES) size) (shares f (k % CLASSES) to tokens) 0

-- n more tokens overflow nothing
pub record Room (n : ℕ) (counts sums : List ℕ) : Type 0 where
  pub few : (k : ℕ) → k < 44 → get_or counts k 0 + n ≤ 4294967295
  pub small : (k : ℕ) → k < 44 → get_or sums k 0 + n * codeable 12 < 2 ^ 63

-- no token is beyond the greatest limit
pub record Taken (tokens : List ℤ) : Type 0 where
  pub codeables : (i : ℕ) → i < length tokens → nat_abs (get_or tokens i (pos 0)) ≤ codeable 12
