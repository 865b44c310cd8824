-- Numbers as a file's bytes, little-endian.
use Rattle.std.specs.Prelude.{List, [], ◌∷◌, ◌++◌, ℕ, ◌-◌, ◌/◌, ◌%◌, ℤ, pos, negsuc}

-- a number of one byte
abbrev pub one : ℕ → List ℕ
one n = n ∷ []

-- a number of two bytes, the least first
unfoldable pub two : ℕ → List ℕ
two n = n % 256 ∷ n / 256 ∷ []

-- the two's complement word of a number of 32 bits
unfoldable pub word32 : ℤ → ℕ
word32 (pos n) = n
word32 (negsuc n) = 4294967295 - n

-- a signed number of four bytes, the least first
unfoldable pub four : ℤ → List ℕ
four z = word32 z % 256 ∷ word32 z / 256 % 256 ∷ word32 z / 65536 % 256 ∷ word32 z / 16777216 ∷ []

-- f of every element, one after another
unfoldable pub joined : {A B : Type 0} → (A → List B) → List A → List B
joined f [] = []
joined f (x ∷ xs) = f x ++ joined f xs
