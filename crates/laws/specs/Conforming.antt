-- What a conforming stream hands to reconstruction. Specification §8.6.2 and §6.4.26.
use Rattle.std.specs.Prelude.{◌≡◌, false, ℕ, ◌+◌, ◌*◌, ◌^◌, ◌≤◌, ◌<◌, ℤ, pos, negsuc, nat_abs, length, get_or}
use Rattle.answers.specs.Limits.{codeable}
use Rattle.answers.specs.Sizes.{area}
use Rattle.answers.specs.Bad.{bad_depth, bad_size, bad_lossless, bad_tx_type}
use Rattle.quant.specs.Places.{dequant_all}
use Rattle.reconstruct.specs.Reconstruct.{Input, bad_quantizers, bad_plane}

-- z is a signed number of w bits: −2^(w−1) to 2^(w−1) − 1
pub data Signed (w : ℕ) : ℤ → Type 0 where
  up : (m : ℕ) → 2 * m < 2 ^ w → Signed w (pos m)
  down : (m : ℕ) → 2 * m < 2 ^ w → Signed w (negsuc m)

-- what is the decoder's own is in order: none of the answers 1 to 7 applies
pub record Called (u : Input) : Type 0 where
  pub depth_ok : bad_depth u.depth ≡ false
  pub size_ok : bad_size u.size ≡ false
  pub lossless_ok : bad_lossless u.lossless u.size ≡ false
  pub tx_type_ok : bad_tx_type u.lossless u.size u.tx_type ≡ false
  pub quantizers_ok : bad_quantizers u.dc u.ac ≡ false
  pub tokens_ok : length u.tokens ≡ area (u.size + 2)
  pub plane_ok : bad_plane (length u.samples) u.plane ≡ false

-- the answers that are left then: done, a token, a coefficient
pub data OfStream : ℕ → Type 0 where
  done : OfStream 0
  token : OfStream 8
  coefficient : OfStream 9

-- the bits that conformance leaves a dequantized value
abbrev pub stored_bits : ℕ → ℕ
stored_bits depth = 8 + depth

-- every token can be coded, and every dequantized value is a signed number of 8 + BitDepth bits
pub record Conforming (u : Input) : Type 0 where
  pub coded : (k : ℕ) → k < length u.tokens → nat_abs (get_or u.tokens k (pos 0)) ≤ codeable u.depth
  pub stored : (k : ℕ) → k < length u.tokens → Signed (stored_bits u.depth) (get_or (dequant_all u.size u.dc u.ac u.tokens) k (pos 0))
