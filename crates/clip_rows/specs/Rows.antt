-- What the contracts of a clip's rows say of texts and places.
use Rattle.std.specs.Prelude.{◌≡◌, List, ℕ, ◌+◌, ◌-◌, ◌≤◌, length, take, drop}

-- the first bytes of a text
abbrev pub Front : List ℕ → List ℕ → Type 0
Front text front = (length front ≤ length text) × (front ≡ take (length front) text)

-- the last bytes of a text
abbrev pub Tail : List ℕ → List ℕ → Type 0
Tail text rest = (length rest ≤ length text) × (rest ≡ drop (length text - length rest) text)

-- bytes of a text that end at the place where the rest begins, or before it
abbrev pub Piece : List ℕ → List ℕ → List ℕ → Type 0
Piece text rest piece = (from : ℕ) × (from + length piece + length rest ≤ length text) × (piece ≡ take (length piece) (drop from text))

-- words were written up to a place of the buffer, which is as long as it was
abbrev pub Said : List ℕ → ℕ → List ℕ → Type 0
Said out next after = (next ≤ length after) × (length after ≡ length out)
