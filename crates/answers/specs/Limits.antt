-- The limits, each once. The code's constants of the same names are these numbers.
use Rattle.std.specs.Prelude.{Bool, ◌||◌, cond, ℕ, ◌+◌, ◌-◌, ◌^◌, eqb}

-- magnitude of dequantized values, of the 2D driver's input and of the quantizer's
abbrev pub COEF_LIMIT : ℕ
COEF_LIMIT = 2147483648

-- magnitude of the forward WHT's input
abbrev pub WHT_LIMIT : ℕ
WHT_LIMIT = 8388608

-- a quantizer is 1 to this
abbrev pub QUANT_LIMIT : ℕ
QUANT_LIMIT = 32767

-- width, height and stride of a plane
abbrev pub SIDE_LIMIT : ℕ
SIDE_LIMIT = 65535

-- bytes of a VBK file
abbrev pub FILE_LIMIT : ℕ
FILE_LIMIT = 65535

-- width × height of a VBK file's plane
abbrev pub AREA_LIMIT : ℕ
AREA_LIMIT = 4096

-- numbers that the quantizer takes
abbrev pub LIST_LIMIT : ℕ
LIST_LIMIT = 1024

-- the depths that there are: 8, 10 and 12
abbrev pub is_depth : ℕ → Bool
is_depth depth = eqb depth 8 || (eqb depth 10 || eqb depth 12)

-- the greatest magnitude of a token. Specification §6.4.26: 67 and the extra bits
abbrev pub codeable : ℕ → ℕ
codeable depth = cond (is_depth depth) (67 + 2 ^ (6 + depth) - 1) 0
