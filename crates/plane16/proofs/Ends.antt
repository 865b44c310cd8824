-- The range of a residual, and a row made of two.
use mathlib.Core.Path.{◌≡◌, sym, ◌∙◌}
use mathlib.Core.List.{List}
use Prim.Native.Nat.{ℕ, ◌+◌, ◌-◌, ◌*◌, ◌/◌, ◌%◌, ◌<◌, ◌≤◌}
use native.Mathlib.Decide.{dec_lt}
use native.Mathlib.Nat as NatL
use native.Mathlib.Omega.{arith}
use lib.IntN.{ℤ}
use lib.ListN.{get_or}
use mir.Syntax.{w16}
use mir.Val.{SFits}
use Rattle.whole.specs.Parts.{P}
use Rattle.whole.specs.Within.{Within}
use Rattle.whole.proofs.Within.{sfits_P, sfits_N}
use Rattle.narrow.specs.Tile.{place}
use Rattle.plane.specs.Inner.{row_after}
use Rattle.plane.proofs.Row.{inside_yes, inside_low, inside_high, row_in, row_out}

pub short_within : (z : ℤ) → SFits w16 z → Within 32768 z
short_within z h = let a : P z < 32768 = sfits_P h in record { hi = omega arith; lo = sfits_N h }

-- a row of m samples, and then n samples from where it ended
module _ (top : ℕ) (r q : ℕ → ℤ) (at m n : ℕ) (same : (j : ℕ) → j < n → q j ≡ r (m + j)) (samples cur next : List ℕ)
    (had : (k : ℕ) → get_or cur k 0 ≡ row_after top r at m samples k) (new : (k : ℕ) → get_or next k 0 ≡ row_after top q (at + m) n cur k) where
  pub row_join : (k : ℕ) → get_or next k 0 ≡ row_after top r at (m + n) samples k
  row_join k = go (dec_lt k at) (dec_lt k (at + m)) (dec_lt k (at + m + n))
    where
      go : Dec (k < at) → Dec (k < at + m) → Dec (k < at + m + n) → get_or next k 0 ≡ row_after top r at (m + n) samples k
      go (yes a) b c =
          new k ∙ row_out top q (at + m) cur n k (inside_low (at + m) n k (omega arith)) ∙ had k ∙ row_out top r at samples m k (inside_low at m k a)
          ∙ sym (row_out top r at samples (m + n) k (inside_low at (m + n) k a))
      go (no a) (yes b) c =
          new k ∙ row_out top q (at + m) cur n k (inside_low (at + m) n k b) ∙ had k ∙ row_in top r at samples m k (inside_yes at m k (omega arith) b)
          ∙ sym (row_in top r at samples (m + n) k (inside_yes at (m + n) k (omega arith) (omega arith)))
      go (no a) (no b) (yes c) =
          let old : get_or cur k 0 ≡ get_or samples k 0 = had k ∙ row_out top r at samples m k (inside_high at m k (omega arith)) in
          let e : m + (k - (at + m)) ≡ k - at = omega arith in
          new k ∙ row_in top q (at + m) cur n k (inside_yes (at + m) n k (omega arith) c)
          ∙ rw (old, same (k - (at + m)) (omega arith), e) (sym (row_in top r at samples (m + n) k (inside_yes at (m + n) k (omega arith) (omega arith))))
      go (no a) (no b) (no c) =
          new k ∙ row_out top q (at + m) cur n k (inside_high (at + m) n k (omega arith)) ∙ had k ∙ row_out top r at samples m k (inside_high at m k (omega arith))
          ∙ sym (row_out top r at samples (m + n) k (inside_high at (m + n) k (omega arith)))

-- eight columns of a strip stand side by side
pub place_strip : (n0 i q j : ℕ) → j < 8 → 8 * n0 * q + 8 * i + j ≡ place n0 i (8 * q + j)
unfolding place
place_strip n0 i q j h =
    let e : (8 * q + j) / 8 ≡ q = omega arith in
    let f : (8 * q + j) % 8 ≡ j = omega arith in
    rw (e, f)

-- the strips of a block of at most 32 columns end where its places end
pub strip_end : (n0 i q : ℕ) → i < n0 → 8 * n0 * q + 8 * i + 8 ≤ 8 * n0 * (q + 1)
strip_end n0 i q l = omega (arith, NatL.mul-add (8 * n0) q 1)

pub strip_most : (n0 q : ℕ) → n0 ≤ 32 → q ≤ 4 → 8 * n0 * q ≤ 1024
strip_most n0 q h m = NatL.mul-le-mul {n₁ = 8 * n0} {n₂ = 256} (omega arith) m
