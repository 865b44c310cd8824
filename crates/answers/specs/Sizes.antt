-- The sizes of blocks. A size number is 0 to 3; n is the size number plus 2; a block has n0 rows of n0 numbers, n0 = 2^n.
use Rattle.std.specs.Prelude.{ℕ, ◌*◌, ◌^◌}

-- n0, the numbers of a row
abbrev pub side : ℕ → ℕ
side n = 2 ^ n

-- n0², the numbers of a block
abbrev pub area : ℕ → ℕ
area n = side n * side n
