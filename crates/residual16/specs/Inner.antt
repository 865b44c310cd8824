-- What only the contracts of inner functions read: magnitudes or-ed and added up, the coefficients in the order of 16-bit blocks, and what the quick way promises where it serves.
use Rattle.std.specs.Prelude.{◌≡◌, ℕ, ◌+◌, ◌*◌, ◌/◌, ◌%◌, ◌^◌, ◌<◌, ◌≤◌, false, List, length, ℤ, pos, slice_index_or, unsigned_abs}
use Rattle.answers.specs.Bad.{bad_quantizer}
use Rattle.answers.specs.Sizes.{side, area}
use Rattle.quant.specs.declared.DcQuant.{DcQuant}
use Rattle.quant.specs.declared.AcQuant.{AcQuant}
use Rattle.quant.specs.Places.{quantizer_at, dequant_all}
use Rattle.quant.specs.Token.{dq_denom, dequant}
use Rattle.blocks.specs.Inner.{Possible}
use Rattle.blocks.specs.Inverse.{inverse2d}
use Rattle.narrow.specs.Tile.{raster}
use Rattle.weights.specs.Inner.{sum}
use Rattle.narrow_lines.specs.Inner.{Dead}

-- of the n numbers from `start` on no magnitude is above `all`, and they add up to `added`, but for what is past 64 bits
pub record Weighed (start n : ℕ) (s : List ℤ) (all added : ℕ) : Type 0 where
  pub each : (k : ℕ) → k < n → unsigned_abs (slice_index_or s (start + k) (pos 0)) ≤ all
  pub whole : added ≡ sum n (λ k. unsigned_abs (slice_index_or s (start + k) (pos 0))) % 2 ^ 64

-- the same of a whole block, whose rows past so many strips of eight are zeros
pub record Scanned (n : ℕ) (s : List ℤ) (all added strips : ℕ) : Type 0 where
  pub weighed : Weighed 0 (area n) s all added
  pub least : 1 ≤ strips
  pub most : 8 * strips ≤ side n
  pub dead : Dead (8 * strips * side n) s

-- token and coefficient are of 16 bits
abbrev pub Short : ℕ → ℤ → ℤ → Type 0
Short size q token = (unsigned_abs token ≤ 32767) × (unsigned_abs token * unsigned_abs q ≤ 32767 * dq_denom size)

-- the number of the block, row by row, that stands at place p by strips of eight columns
unfoldable pub source : ℕ → ℕ → ℕ
source n0 p = p / 8 % n0 * n0 + (8 * (p / 8 / n0) + p % 8)

-- the coefficient that stands there
unfoldable pub tiled : ℕ → DcQuant → AcQuant → List ℤ → ℕ → ℤ
tiled size dc ac tokens p =
    let k = source (side (size + 2)) p in
    dequant size (quantizer_at dc ac k) (slice_index_or tokens k (pos 0))

-- a block of 8 by 8 or more, with all its tokens and quantizers in their range
pub record Lent (size : ℕ) (dc : DcQuant) (ac : AcQuant) (tx_type : ℕ) (tokens : List ℤ) : Type 0 where
  pub larger : 1 ≤ size
  pub possible : Possible (size + 2) tx_type false
  pub all : length tokens ≡ area (size + 2)
  pub dc_ok : bad_quantizer dc.0 ≡ false
  pub ac_ok : bad_quantizer ac.0 ≡ false

-- no token is above 16,383, and z holds the residual
pub record Served (size : ℕ) (dc : DcQuant) (ac : AcQuant) (tx_type : ℕ) (tokens z : List ℤ) : Type 0 where
  pub small : (k : ℕ) → k < length tokens → unsigned_abs (slice_index_or tokens k (pos 0)) ≤ 16383
  pub made : raster (side (size + 2)) z ≡ inverse2d (size + 2) tx_type false (dequant_all size dc ac tokens)
