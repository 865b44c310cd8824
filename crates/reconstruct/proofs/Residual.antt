-- The residual as the code has it: of a block of 1,024 whose front holds the coefficients, or by strips of eight columns.
use mathlib.Core.Path.{◌≡◌, refl, sym, ap, ◌∙◌}
use mathlib.Core.Bool.{Bool, true, false}
use mathlib.Core.List.{List}
use Prim.Native.Nat.{ℕ, ◌+◌, ◌*◌, ◌^◌, ◌≤◌, ◌<◌}
use native.Mathlib.Decide.{dec_lt}
use native.Mathlib.Nat as NatL
use native.Mathlib.Omega.{arith}
use lib.IntN.{ℤ, pos}
use lib.ListN.{length, get_or, replicate, length-replicate}
use Rattle.whole.specs.Lists.{fill}
use Rattle.whole.specs.Within.{Within}
use Rattle.whole.specs.Inner.{AllWithin}
use Rattle.whole.proofs.Lists.{length_tabulate, get_d_tabulate, length_fill, fill_rest, fill_below}
use Rattle.whole.proofs.Within.{within_abs, within_le, within_zero}
use Rattle.quant.specs.declared.DcQuant.{DcQuant}
use Rattle.quant.specs.declared.AcQuant.{AcQuant}
use Rattle.quant.specs.Places.{quantizer_at, dequant_all}
use Rattle.quant.specs.Token.{dequant}
use Rattle.plane.specs.declared.Plane.{Plane}
use Rattle.plane.specs.Place.{SamplesOf}
use Rattle.plane.specs.Plane.{plane_after}
use Rattle.plane.proofs.Block.{same_residuals}
use Rattle.blocks.specs.Block.{rows}
use Rattle.blocks.specs.Inner.{FirstWithin, Possible}
use Rattle.blocks.specs.Inverse.{apply, row_pass, column_pass, rounding, inverse2d}
use Rattle.blocks.proofs.Places.{in_row}
use Rattle.blocks.proofs.Lines.{line_same, zeros_at}
use Rattle.blocks.proofs.Blocks.{rows_at}
use Rattle.blocks.proofs.Inverse.{inverse2d_at, inverse2d_past, inverse2d_within}
use Rattle.answers.specs.Sizes.{side, area}
use Rattle.narrow.specs.Tile.{place, raster}
use Rattle.narrow.proofs.Tile.{raster_at}
use Rattle.reconstruct.specs.Reconstruct.{residual, added}
use Rattle.reconstruct.specs.Inner.{Accepted}
use Rattle.tokens.proofs.Sizes.{area_most}

-- ---- lists that agree in the block have the same residual there
module _ (n tx_type : ℕ) (lossless : Bool) (s t : List ℤ) (room : 2 ^ n * 2 ^ n ≤ length s) (wide : 2 ^ n * 2 ^ n ≤ length t)
    (e : (k : ℕ) → k < 2 ^ n * 2 ^ n → get_or s k (pos 0) ≡ get_or t k (pos 0)) where
  R : List ℤ → List ℤ
  R = apply (row_pass tx_type lossless) n

  same_rows : (i j : ℕ) → i < 2 ^ n → j < 2 ^ n → get_or (rows R (2 ^ n) s) (i * 2 ^ n + j) (pos 0) ≡ get_or (rows R (2 ^ n) t) (i * 2 ^ n + j) (pos 0)
  same_rows i j hi hj =
      rows_at R (2 ^ n) s room i j hi hj
      ∙ ap (λ (l : List ℤ). get_or (R l) j (pos 0)) (line_same (i * 2 ^ n) 1 (2 ^ n) s t (λ k l. e (i * 2 ^ n + k * 1) (in_row (2 ^ n) i k (2 ^ n * 2 ^ n) hi l (omega arith))))
      ∙ sym (rows_at R (2 ^ n) t wide i j hi hj)

  pub same_block : (i j : ℕ) → i < 2 ^ n → j < 2 ^ n
      → get_or (inverse2d n tx_type lossless s) (i * 2 ^ n + j) (pos 0) ≡ get_or (inverse2d n tx_type lossless t) (i * 2 ^ n + j) (pos 0)
  unfolding R
  same_block i j hi hj =
      inverse2d_at n tx_type lossless s room i j hi hj
      ∙ ap (λ (l : List ℤ). rounding n lossless (get_or (apply (column_pass tx_type lossless) n l) i (pos 0)))
      (line_same j (2 ^ n) (2 ^ n) (rows R (2 ^ n) s) (rows R (2 ^ n) t)
      (λ k l. rw (NatL.add_comm j (k * 2 ^ n)) (same_rows k j l hj)))
      ∙ sym (inverse2d_at n tx_type lossless t wide i j hi hj)

-- a block of 1,024 with the coefficients of n tokens in its front
unfoldable pub in_front : ℕ → ℕ → DcQuant → AcQuant → List ℤ → List ℤ
in_front n size dc ac tokens = fill n (λ k. dequant size (quantizer_at dc ac k) (get_or tokens k (pos 0))) (replicate 1024 (pos 0))

-- as the code fills it
pub in_front_lem : (n size : ℕ) (dc : DcQuant) (ac : AcQuant) (tokens z block : List ℤ) → z ≡ replicate 1024 (pos 0)
    → block ≡ fill n (λ k. dequant size (quantizer_at dc ac k) (get_or tokens k (pos 0))) z → block ≡ in_front n size dc ac tokens
unfolding in_front
in_front_lem n size dc ac tokens z block e h = h ∙ ap (fill n (λ k. dequant size (quantizer_at dc ac k) (get_or tokens k (pos 0)))) e

-- ---- any numbers in the front of a block of 1,024 zeros
module _ (size : ℕ) (f : ℕ → ℤ) (h : size ≤ 3) where
  pub front_length : length (fill (area (size + 2)) f (replicate 1024 (pos 0))) ≡ 1024
  front_length = length_fill (area (size + 2)) f (replicate 1024 (pos 0)) ∙ length-replicate 1024 (pos 0)

  pub front_room : area (size + 2) ≤ length (fill (area (size + 2)) f (replicate 1024 (pos 0)))
  front_room = rw front_length (area_most size h)

  pub front_at : (k : ℕ) → k < area (size + 2) → get_or (fill (area (size + 2)) f (replicate 1024 (pos 0))) k (pos 0) ≡ f k
  front_at k l = fill_below (pos 0) (area (size + 2)) f (replicate 1024 (pos 0)) k l (rw (length-replicate 1024 (pos 0)) (omega (arith, area_most size h)))

  front_past : (k : ℕ) → area (size + 2) ≤ k → get_or (fill (area (size + 2)) f (replicate 1024 (pos 0))) k (pos 0) ≡ pos 0
  front_past k l = fill_rest (pos 0) (area (size + 2)) f (replicate 1024 (pos 0)) k l ∙ zeros_at 1024 k

  pub front_within : (m : ℕ) → ((k : ℕ) → k < area (size + 2) → Within m (f k)) → FirstWithin m (area (size + 2)) (fill (area (size + 2)) f (replicate 1024 (pos 0)))
  front_within m w = record { each = λ k l. rw (front_at k l) (w k l) }

  pub front_all : (m : ℕ) → ((k : ℕ) → k < area (size + 2) → Within m (f k)) → AllWithin m (fill (area (size + 2)) f (replicate 1024 (pos 0)))
  front_all m w = record { each = λ k. go k (dec_lt k (area (size + 2))) }
    where
      go : (k : ℕ) → Dec (k < area (size + 2)) → Within m (get_or (fill (area (size + 2)) f (replicate 1024 (pos 0))) k (pos 0))
      go k (yes l) = rw (front_at k l) (w k l)
      go k (no l) = rw (front_past k (omega arith)) within_zero

  -- every number of its residual is within 2^62
  pub front_residual : (tx_type : ℕ) (lossless : Bool) → Possible (size + 2) tx_type lossless → ((k : ℕ) → k < area (size + 2) → Within (2 ^ 31) (f k))
      → AllWithin (2 ^ 62) (inverse2d (size + 2) tx_type lossless (fill (area (size + 2)) f (replicate 1024 (pos 0))))
  front_residual tx_type lossless p w = record { each = λ k. go k (dec_lt k (area (size + 2))) }
    where
      go : (k : ℕ) → Dec (k < area (size + 2)) → Within (2 ^ 62) (get_or (inverse2d (size + 2) tx_type lossless (fill (area (size + 2)) f (replicate 1024 (pos 0)))) k (pos 0))
      go k (yes l) = within_le (omega arith) ((inverse2d_within (size + 2) tx_type lossless (fill (area (size + 2)) f (replicate 1024 (pos 0))) p front_room (front_within (2 ^ 31) w)).each k l)
      go k (no l) = rw (inverse2d_past (size + 2) tx_type lossless (fill (area (size + 2)) f (replicate 1024 (pos 0))) k (omega arith), front_past k (omega arith)) within_zero

-- ---- tokens that are taken, in a block of 1,024
module _ (size : ℕ) (dc : DcQuant) (ac : AcQuant) (tx_type : ℕ) (lossless : Bool) (tokens : List ℤ) (a : Accepted size dc ac tx_type lossless tokens) where
  pub size_most : size ≤ 3
  size_most = omega (arith, a.possible.most)

  pub block_length : length (in_front (area (size + 2)) size dc ac tokens) ≡ 1024
  unfolding in_front
  block_length = front_length size _ size_most

  pub block_room : area (size + 2) ≤ length (in_front (area (size + 2)) size dc ac tokens)
  block_room = rw block_length (area_most size size_most)

  all_length : length (dequant_all size dc ac tokens) ≡ area (size + 2)
  unfolding dequant_all
  all_length = length_tabulate _ (length tokens) ∙ a.all

  -- it agrees with the list of the coefficients
  block_at : (k : ℕ) → k < area (size + 2) → get_or (in_front (area (size + 2)) size dc ac tokens) k (pos 0) ≡ get_or (dequant_all size dc ac tokens) k (pos 0)
  unfolding in_front dequant_all
  block_at k h =
      front_at size _ size_most k h
      ∙ sym (get_d_tabulate _ (length tokens) k (pos 0) (rw a.all h))

  pub block_within : FirstWithin (2 ^ 31) (area (size + 2)) (in_front (area (size + 2)) size dc ac tokens)
  block_within = record { each = λ k h. rw (block_at k h) (within_abs (omega (arith, a.coefs k (rw a.all h)))) }

  coef_within : (k : ℕ) → k < area (size + 2) → Within (2 ^ 31) (dequant size (quantizer_at dc ac k) (get_or tokens k (pos 0)))
  unfolding in_front
  coef_within k h = rw (front_at size (λ k. dequant size (quantizer_at dc ac k) (get_or tokens k (pos 0))) size_most k h) at (block_within.each k h)

  -- every number of its residual is within 2^62
  pub residual_within : AllWithin (2 ^ 62) (inverse2d (size + 2) tx_type lossless (in_front (area (size + 2)) size dc ac tokens))
  unfolding in_front
  residual_within = front_residual size _ size_most tx_type lossless a.possible coef_within

  pub residual_at : (i j : ℕ) → i < side (size + 2) → j < side (size + 2)
      → get_or (inverse2d (size + 2) tx_type lossless (in_front (area (size + 2)) size dc ac tokens)) (i * side (size + 2) + j) (pos 0) ≡ get_or (residual size dc ac tx_type lossless tokens) (i * side (size + 2) + j) (pos 0)
  unfolding residual
  residual_at i j hi hj =
      same_block (size + 2) tx_type lossless (in_front (area (size + 2)) size dc ac tokens) (dequant_all size dc ac tokens) block_room (rw all_length (NatL.le_refl (area (size + 2)))) block_at i j hi hj

-- the type is not looked at when lossless
pub as_lossless : (tx_type : ℕ) (lossless : Bool) → lossless ≡ true → (s : List ℤ) → inverse2d 2 0 true s ≡ inverse2d 2 tx_type lossless s
unfolding inverse2d
as_lossless tx_type lossless l s = rw l

pub as_lossy : (other tx_type : ℕ) (lossless : Bool) → tx_type ≡ other → lossless ≡ false → (s : List ℤ) → inverse2d 2 other false s ≡ inverse2d 2 tx_type lossless s
as_lossy other tx_type lossless t l s = rw (t, l)

pub not_lossless : (size tx_type : ℕ) (lossless : Bool) → Possible (size + 2) tx_type lossless → (size ≡ 0 → ⊥) → lossless ≡ false
not_lossless size tx_type true p h = absurd (h (omega (arith, p.small refl)))
not_lossless size tx_type false p h = refl

-- and so the flag may be put in
pub lossy_taken : (size : ℕ) (dc : DcQuant) (ac : AcQuant) (tx_type : ℕ) (lossless : Bool) (tokens : List ℤ) → lossless ≡ false → Accepted size dc ac tx_type lossless tokens → Accepted size dc ac tx_type false tokens
lossy_taken size dc ac tx_type lossless tokens e a = rw e at a

pub sized_taken : (size other : ℕ) (dc : DcQuant) (ac : AcQuant) (tx_type : ℕ) (lossless : Bool) (tokens : List ℤ) → size ≡ other → Accepted size dc ac tx_type lossless tokens → Accepted other dc ac tx_type lossless tokens
sized_taken size other dc ac tx_type lossless tokens e a = rw e at a

pub lossy_added : (p : Plane) (top x y size : ℕ) (dc : DcQuant) (ac : AcQuant) (tx_type : ℕ) (lossless : Bool) (tokens : List ℤ) (samples : List ℕ) → lossless ≡ false
    → added p top x y size dc ac tx_type false tokens samples ≡ added p top x y size dc ac tx_type lossless tokens samples
lossy_added p top x y size dc ac tx_type lossless tokens samples e = rw e

-- the size and the largest sample by other names
pub same_added : (p : Plane) (top most x y size other : ℕ) (dc : DcQuant) (ac : AcQuant) (tx_type : ℕ) (lossless : Bool) (tokens : List ℤ) (samples after : List ℕ) → top ≡ most → size ≡ other
    → after ≡ added p top x y size dc ac tx_type lossless tokens samples → after ≡ added p most x y other dc ac tx_type lossless tokens samples
same_added p top most x y size other dc ac tx_type lossless tokens samples after e f h =
    h ∙ ap (λ (t : ℕ). added p t x y size dc ac tx_type lossless tokens samples) e ∙ ap (λ (z : ℕ). added p most x y z dc ac tx_type lossless tokens samples) f

-- a residual by strips of eight columns is the block's
pub short_added : (p : Plane) (top x y size : ℕ) (dc : DcQuant) (ac : AcQuant) (tx_type : ℕ) (tokens z : List ℤ) (samples : List ℕ) → SamplesOf p samples
    → raster (side (size + 2)) z ≡ inverse2d (size + 2) tx_type false (dequant_all size dc ac tokens)
    → plane_after p top x y (side (size + 2)) (λ i j. get_or z (place (side (size + 2)) i j) (pos 0)) samples ≡ added p top x y size dc ac tx_type false tokens samples
unfolding added residual
short_added p top x y size dc ac tx_type tokens z samples s e =
    same_residuals p samples s top x y (side (size + 2)) (λ i j. get_or z (place (side (size + 2)) i j) (pos 0)) _
    (λ i j hi hj. sym (raster_at (side (size + 2)) z i j hi hj) ∙ ap (λ (l : List ℤ). get_or l (i * side (size + 2) + j) (pos 0)) e)
