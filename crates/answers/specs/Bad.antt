-- The tests that refuse, as far as several calls share them.
use Rattle.std.specs.Prelude.{Bool, not, ◌&&◌, ◌||◌, List, ℕ, ltb, eqb, ℤ, pos, nat_abs, get_or}
use Rattle.std.specs.Int.Signed.{lt_z}
use Rattle.whole.specs.Tests.{any_below}
use Rattle.answers.specs.Limits.{is_depth, QUANT_LIMIT}
use Rattle.answers.specs.Sizes.{area}

-- 1: the depth is not 8, 10 or 12
unfoldable pub bad_depth : ℕ → Bool
bad_depth depth = not (is_depth depth)

-- 20: depth 12, which is read and no longer written
abbrev pub retired : ℕ → Bool
retired depth = eqb depth 12

-- 2: the size number is above 3
abbrev pub bad_size : ℕ → Bool
bad_size size = ltb 3 size

-- 2: n outside 2 to 5
unfoldable pub bad_side : ℕ → Bool
bad_side n = ltb n 2 || ltb 5 n

-- 3: lossless with a size other than 4 by 4
unfoldable pub bad_lossless : Bool → ℕ → Bool
bad_lossless lossless size = lossless && not (eqb size 0)

-- 4: not lossless, and a type above 3, or 32 by 32 with a type other than 0
unfoldable pub bad_tx_type : Bool → ℕ → ℕ → Bool
bad_tx_type lossless size tx_type = not lossless && (ltb 3 tx_type || (eqb size 3 && not (eqb tx_type 0)))

-- 5: a quantizer outside 1 to 32,767
unfoldable pub bad_quantizer : ℤ → Bool
bad_quantizer q = lt_z q (pos 1) || lt_z (pos QUANT_LIMIT) q

-- 6: fewer numbers than the block has
abbrev pub bad_room : ℕ → ℕ → Bool
bad_room count n = ltb count (area n)

-- 8 and 9: of the first n numbers, some magnitude is above m
unfoldable pub any_beyond : ℕ → ℕ → List ℤ → Bool
any_beyond m n l = any_below (λ k. ltb m (nat_abs (get_or l k (pos 0)))) n
