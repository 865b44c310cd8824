-- What the contracts say of a number that a field gives.
use Rattle.std.specs.Prelude.{ℤ, ◌≤ℤ◌, Result, Ok}

-- a value that some number from `least` to `most` converts to
abbrev pub IsWithin : {T E : Type 0} → (ℤ → Result T E → Type 0) → ℤ → ℤ → T → Type 0
IsWithin gives least most value = (n : ℤ) × (least ≤ℤ n) × (n ≤ℤ most) × gives n (Ok value)
