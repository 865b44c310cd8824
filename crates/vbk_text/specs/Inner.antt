-- What only the contracts of the functions that write read: text put into a lent buffer from a place on.
use Rattle.std.specs.Prelude.{◌≡◌, List, ℕ, ◌+◌, ◌≤◌, length}
use Rattle.std.proofs.lemmas.List.Edits.{sets}

-- the buffer has room for the text from `at` on
abbrev pub Room : List ℕ → ℕ → List ℕ → Type 0
Room out at text = at + length text ≤ length out

-- the text stands in the buffer from `at` on, the rest is as it was, and `next` is the place past it
pub record Put (out : List ℕ) (at : ℕ) (text : List ℕ) (next : ℕ) (after : List ℕ) : Type 0 where
  pub next_is : next ≡ at + length text
  pub after_is : after ≡ sets out at text
