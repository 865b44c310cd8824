-- Numbers in a file's bytes, little-endian. s is the file's bytes, `at` a place in them.
use Rattle.std.specs.Prelude.{cond, List, ℕ, suc, ◌+◌, ◌-◌, ◌*◌, ltb, ℤ, pos, negsuc, get_or}

-- one byte
abbrev pub le1 : List ℕ → ℕ → ℕ
le1 s at = get_or s at 0

-- two bytes, the least first
abbrev pub le2 : List ℕ → ℕ → ℕ
le2 s at = get_or s at 0 + 256 * get_or s (at + 1) 0

-- four bytes, the least first
abbrev pub le4 : List ℕ → ℕ → ℕ
le4 s at = get_or s at 0 + 256 * get_or s (at + 1) 0 + 65536 * get_or s (at + 2) 0 + 16777216 * get_or s (at + 3) 0

-- the number of a two's complement word of 32 bits
abbrev pub signed32 : ℕ → ℤ
signed32 u = cond (ltb u 2147483648) (pos u) (negsuc (4294967296 - suc u))
