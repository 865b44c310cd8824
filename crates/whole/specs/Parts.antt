-- The positive and the negative part of a whole number: z = P z − N z, and one of the two is 0.
use Rattle.std.specs.Prelude.{ℕ, suc, ℤ, pos, negsuc}

-- the positive part
abbrev pub P : ℤ → ℕ
P (pos a) = a
P (negsuc a) = 0

-- the negative part, as a natural number
abbrev pub N : ℤ → ℕ
N (pos a) = 0
N (negsuc a) = suc a
