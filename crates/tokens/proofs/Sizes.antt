-- The four sizes, case by case; the two quantizers.
use mathlib.Core.Path.{◌≡◌, refl}
use mathlib.Core.Bool.{Bool, true, false, cond, ◌||◌}
use Prim.Native.Nat.{ℕ, zero, suc, ◌+◌, ◌*◌, ◌≤◌, ◌<◌}
use native.Mathlib.Omega.{arith}
use lib.Arith.{digits_lt}
use lib.Dec.{eqb}
use Rattle.answers.specs.Bad.{bad_quantizer}
use Rattle.quant.specs.declared.DcQuant.{DcQuant}
use Rattle.quant.specs.declared.AcQuant.{AcQuant}
use Rattle.quant.specs.Places.{quantizer_at}
use Rattle.answers.specs.Sizes.{side, area}
use Rattle.tokens.specs.Tokens.{bad_quantizers}

pub by_size : (Q : ℕ → Type 0) → Q 0 → Q 1 → Q 2 → Q 3 → (size : ℕ) → size ≤ 3 → Q size
by_size Q a b c d zero h = a
by_size Q a b c d (suc zero) h = b
by_size Q a b c d (suc (suc zero)) h = c
by_size Q a b c d (suc (suc (suc zero))) h = d
by_size Q a b c d (suc (suc (suc (suc size)))) h = absurd (omega arith)

pub side_most : (size : ℕ) → size ≤ 3 → side (size + 2) ≤ 32
side_most = by_size (λ s. side (s + 2) ≤ 32) (omega arith) (omega arith) (omega arith) (omega arith)

pub area_most : (size : ℕ) → size ≤ 3 → area (size + 2) ≤ 1024
area_most = by_size (λ s. area (s + 2) ≤ 1024) (omega arith) (omega arith) (omega arith) (omega arith)

-- quantizers that are both in range
neither : (a b : Bool) → a || b ≡ false → (a ≡ false) × (b ≡ false)
neither true b h = (h, cc)
neither false b h = (refl, h)

module _ (dc : DcQuant) (ac : AcQuant) (h : bad_quantizers dc ac ≡ false) where
  pub dc_fine : bad_quantizer dc.0 ≡ false
  unfolding bad_quantizers
  dc_fine = (neither (bad_quantizer dc.0) (bad_quantizer ac.0) h).0

  pub ac_fine : bad_quantizer ac.0 ≡ false
  unfolding bad_quantizers
  ac_fine = (neither (bad_quantizer dc.0) (bad_quantizer ac.0) h).1

  -- whichever place k has
  pub place_fine : (k : ℕ) → bad_quantizer (quantizer_at dc ac k) ≡ false
  unfolding quantizer_at
  place_fine k = go (eqb k 0)
    where
      go : (b : Bool) → bad_quantizer (cond b dc.0 ac.0) ≡ false
      go true = dc_fine
      go false = ac_fine

-- a row and a column of a block are a place of it
pub in_block : (size i j : ℕ) → i < side (size + 2) → j < side (size + 2) → i * side (size + 2) + j < area (size + 2)
in_block size i j hi hj = digits_lt hi hj
