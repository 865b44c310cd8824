-- What the contracts of `lines` say of a number that a type reads from its text.
use Rattle.std.specs.Prelude.{◌≡◌, List, ℕ, ◌-◌, ◌≤◌, [], ◌∷◌, length, take, drop, Result, Ok}

-- the value that the front of a text gives, where the rest is what stands behind that front
abbrev pub IsFirst : {T E : Type 0} → (List ℕ → Result T E → Type 0) → List ℕ → List ℕ → T → Type 0
IsFirst gives text rest value =
    let n : ℕ = length text - length rest in
    (length rest ≤ length text) × (rest ≡ drop n text) × gives (take n text) (Ok value)

-- the same behind a space
abbrev pub IsNumber : {T E : Type 0} → (List ℕ → Result T E → Type 0) → List ℕ → List ℕ → T → Type 0
IsNumber gives text rest value = (take 1 text ≡ 32 ∷ []) × IsFirst gives (drop 1 text) rest value
