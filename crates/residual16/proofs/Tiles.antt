-- A block filled by strips of eight columns, eight numbers at a time.
use Rattle.std.proofs.Common.{◌≡◌, ℕ, zero, suc, ◌+◌, ◌-◌, ◌*◌, ◌/◌, ◌%◌, ◌<◌, ◌≤◌, List, length, get_or, set, replicate, ℤ, pos, sym, refl, ap, ◌∙◌, arith, lit≤, ext_get_or, pow_pos, ne_eqb}
use native.Mathlib.Nat as NatL
use native.Mathlib.Decide.{dec_lt}
use lib.Arith.{digits_lt, digits_div, digits_mod}
use lib.ListN.{length-replicate}
use Rattle.whole.specs.Lists.{tabulate, fill}
use Rattle.whole.specs.Inner.{times}
use Rattle.whole.proofs.Lists.{length_fill, fill_rest, fill_below, length_tabulate, get_d_tabulate}
use Rattle.answers.specs.Sizes.{side, area}
use Rattle.dct.proofs.Dct.{two_to_five}
use Rattle.quant.specs.declared.DcQuant.{DcQuant}
use Rattle.quant.specs.declared.AcQuant.{AcQuant}
use Rattle.quant.specs.Places.{quantizer_at, dequant_all}
use Rattle.quant.specs.Token.{dequant}
use Rattle.blocks.proofs.Lines.{zeros_at}
use Rattle.narrow.specs.Tile.{place, raster}
use Rattle.narrow.proofs.Tile.{place_is, place_lt, raster_is}
use Rattle.narrow_lines.specs.Inner.{Dead}
use Rattle.residual16.specs.Inner.{source, tiled}

-- ---- strips of eight: 8 by 8, 16 by 16 and 32 by 32 are whole ones
pub eights : (n : ℕ) → 3 ≤ n → n ≤ 5 → side n ≡ side n / 8 * 8
eights n l h =
    two_to_five (λ n. 3 ≤ n → side n ≡ side n / 8 * 8) (λ q. absurd (omega arith)) (λ q. refl) (λ q. refl) (λ q. refl) n (omega arith) h l

pub side_least : (n : ℕ) → 3 ≤ n → n ≤ 5 → 8 ≤ side n
side_least n l h =
    two_to_five (λ n. 3 ≤ n → 8 ≤ side n) (λ q. absurd (omega arith)) (λ q. lit≤ tt) (λ q. lit≤ tt) (λ q. lit≤ tt) n (omega arith) h l

pub area_most_n : (n : ℕ) → 2 ≤ n → n ≤ 5 → area n ≤ 1024
area_most_n = two_to_five (λ n. area n ≤ 1024) (lit≤ tt) (lit≤ tt) (lit≤ tt) (lit≤ tt)

pub area_most : (size : ℕ) → size ≤ 3 → area (size + 2) ≤ 1024
area_most size h = area_most_n (size + 2) (omega arith) (omega arith)

pub area_least : (n : ℕ) → 3 ≤ n → n ≤ 5 → 8 ≤ area n
area_least n l h =
    two_to_five (λ n. 3 ≤ n → 8 ≤ area n) (λ q. absurd (omega arith)) (λ q. lit≤ tt) (λ q. lit≤ tt) (λ q. lit≤ tt) n (omega arith) h l

pub whole_strips : (n0 w : ℕ) → n0 ≡ w * 8 → 8 * n0 * w ≡ n0 * n0
whole_strips n0 w e =
    NatL.mul_assoc 8 n0 w ∙ NatL.mul_comm 8 (n0 * w) ∙ NatL.mul_assoc n0 w 8 ∙ ap (λ (x : ℕ). n0 * x) (sym e)

pub strip_in : (n0 w s : ℕ) → n0 ≡ w * 8 → s < w → 8 * n0 * s + 8 * n0 ≤ n0 * n0
strip_in n0 w s e h =
    let a : 8 * n0 * (s + 1) ≤ 8 * n0 * w = NatL.mul-le-mul_left (8 * n0) (omega arith) in
    omega (arith, NatL.mul-add (8 * n0) s 1, whole_strips n0 w e)

-- a row and the columns of a strip are a place of the block
pub eight_in : (n0 i q : ℕ) → i < n0 → 8 * q + 8 ≤ n0 → n0 * i + 8 * q + 8 ≤ n0 * n0
eight_in n0 i q h l =
    let a : n0 * (i + 1) ≤ n0 * n0 = NatL.mul-le-mul_left n0 (omega arith) in
    omega (arith, NatL.mul-add n0 i 1)

pub tile_in : (n0 i q : ℕ) → n0 ≤ 32 → i < n0 → 8 * q + 8 ≤ n0 → 8 * n0 * q + 8 * i + 8 ≤ 1024
tile_in n0 i q m h l =
    let a : n0 * (q + 1) ≤ 32 * 4 = NatL.mul-le-mul {m₁ = q + 1} {m₂ = 4} m (omega arith) in
    omega (arith, NatL.mul-add n0 q 1, NatL.mul_assoc 8 n0 q)

pub not_first : (n0 i q j : ℕ) → 0 < n0 → 1 ≤ q + i → 1 ≤ n0 * i + 8 * q + j
not_first n0 i q j h l = let a : 1 * i ≤ n0 * i = NatL.mul-le-mul_right i h in omega arith

-- ---- where a number comes from
pub source_at : (n0 q i c : ℕ) → i < n0 → c < 8 → source n0 ((q * n0 + i) * 8 + c) ≡ i * n0 + (8 * q + c)
unfolding source
source_at n0 q i c hi hc = rw (digits_div (q * n0 + i) hc, digits_mod (q * n0 + i) hc, digits_div q hi, digits_mod q hi)

pub source_place : (n0 i j : ℕ) → i < n0 → source n0 (place n0 i j) ≡ i * n0 + j
source_place n0 i j hi =
    rw (place_is n0 i j) (source_at n0 (j / 8) i (j % 8) hi (NatL.mod-lt j (omega arith)) ∙ ap (λ (x : ℕ). i * n0 + x) (omega arith))

-- eight columns of a row stand side by side
pub source_eight : (n0 q i j : ℕ) → i < n0 → j < 8 → source n0 (8 * n0 * q + 8 * i + j) ≡ n0 * i + 8 * q + j
source_eight n0 q i j hi hj =
    let e : 8 * n0 * q + 8 * i + j ≡ (q * n0 + i) * 8 + j = omega (arith, NatL.mul_comm n0 q, NatL.mul_assoc 8 n0 q, NatL.add-mul (q * n0) i 8) in
    rw e (source_at n0 q i j hi hj ∙ omega (arith, NatL.mul_comm n0 i))

-- ---- eight more, and zeros more
fill_part : (at : ℕ) (f : ℕ → ℤ) (u o : List ℤ) (m : ℕ) → ((j : ℕ) → j < m → get_or o j (pos 0) ≡ f (at + j))
    → times m (λ j s. set s (at + j) (get_or o j (pos 0))) (fill at f u) ≡ fill (at + m) f u
unfolding times fill
fill_part at f u o zero h = rw (NatL.add-zero at)
fill_part at f u o (suc m) h =
    let e : at + suc m ≡ suc (at + m) = omega arith in
    rw (fill_part at f u o m (λ j l. h j (omega arith)), h m (omega arith), e) refl

pub fill_eight : (at : ℕ) (f : ℕ → ℤ) (u o y z : List ℤ) → ((j : ℕ) → j < 8 → get_or o j (pos 0) ≡ f (at + j))
    → y ≡ fill at f u → z ≡ times 8 (λ j s. set s (at + j) (get_or o j (pos 0))) y → z ≡ fill (at + 8) f u
fill_eight at f u o y z h e g = g ∙ ap (times 8 (λ j s. set s (at + j) (get_or o j (pos 0)))) e ∙ fill_part at f u o 8 h

pub fill_zeros : (a b : ℕ) (f : ℕ → ℤ) → a ≤ b → ((p : ℕ) → a ≤ p → p < b → f p ≡ pos 0) → fill a f (replicate 1024 (pos 0)) ≡ fill b f (replicate 1024 (pos 0))
fill_zeros a b f h z =
    ext_get_or (pos 0) (fill a f u) (fill b f u) (length_fill a f u ∙ sym (length_fill b f u))
    (λ k l. go k (omega (arith, length_fill a f u)) (dec_lt k a) (dec_lt k b))
  where
    u : List ℤ
    u = replicate 1024 (pos 0)

    go : (k : ℕ) → k < length u → Dec (k < a) → Dec (k < b) → get_or (fill a f u) k (pos 0) ≡ get_or (fill b f u) k (pos 0)
    go k l (yes m) d = fill_below (pos 0) a f u k m l ∙ sym (fill_below (pos 0) b f u k (omega arith) l)
    go k l (no m) (yes d) = fill_rest (pos 0) a f u k (omega arith) ∙ zeros_at 1024 k ∙ sym (fill_below (pos 0) b f u k d l ∙ z k (omega arith) d)
    go k l (no m) (no d) = fill_rest (pos 0) a f u k (omega arith) ∙ sym (fill_rest (pos 0) b f u k (omega arith))

-- ---- the coefficients of a block, by strips of eight columns
module _ (size : ℕ) (dc : DcQuant) (ac : AcQuant) (tokens : List ℤ) where
  -- eight of them as they are made
  pub tiled_eight : (q i j : ℕ) → i < side (size + 2) → j < 8
      → tiled size dc ac tokens (8 * side (size + 2) * q + 8 * i + j)
      ≡ dequant size (quantizer_at dc ac (side (size + 2) * i + 8 * q + j)) (get_or tokens (side (size + 2) * i + 8 * q + j) (pos 0))
  unfolding tiled
  tiled_eight q i j hi hj = rw (source_eight (side (size + 2)) q i j hi hj)

  -- with no token of place 0 among them
  pub tiled_ac : (q i j : ℕ) → 0 < side (size + 2) → i < side (size + 2) → j < 8 → 1 ≤ q + i
      → tiled size dc ac tokens (8 * side (size + 2) * q + 8 * i + j) ≡ dequant size ac.0 (get_or tokens (side (size + 2) * i + 8 * q + j) (pos 0))
  unfolding quantizer_at
  tiled_ac q i j some hi hj l =
      let h = not_first (side (size + 2)) i q j some l in
      tiled_eight q i j hi hj ∙ rw (ne_eqb (side (size + 2) * i + 8 * q + j) 0 (λ e. absurd (omega arith)))

  -- a row of zeros
  pub tiled_dead : (rows q p : ℕ) → Dead (rows * side (size + 2)) tokens → ((k : ℕ) → dequant size (quantizer_at dc ac k) (pos 0) ≡ pos 0)
      → 8 * side (size + 2) * q + 8 * rows ≤ p → p < 8 * side (size + 2) * (q + 1) → tiled size dc ac tokens p ≡ pos 0
  unfolding tiled
  tiled_dead rows q p dead zero_token l h =
      let n0 = side (size + 2) in
      let i = p / 8 - q * n0 in
      let a = NatL.mul_comm n0 q in
      let b = NatL.mul_assoc 8 n0 q in
      let d = NatL.mul-add (8 * n0) q 1 in
      let e : p ≡ (q * n0 + i) * 8 + p % 8 = omega (arith, a, b, d, NatL.add-mul (q * n0) i 8) in
      let hi : i < n0 = omega (arith, a, b, d) in
      let f : source n0 p ≡ i * n0 + (8 * q + p % 8) = ap (source n0) e ∙ source_at n0 q i (p % 8) hi (NatL.mod-lt p (omega arith)) in
      let g : rows * n0 ≤ i * n0 = NatL.mul-le-mul_right n0 (omega (arith, a, b)) in
      rw (dead (source n0 p) (omega (arith, f))) (zero_token (source n0 p))

  -- the rows of a strip past the last that is live
  pub strip_done : (rows q : ℕ) → rows ≤ side (size + 2) → Dead (rows * side (size + 2)) tokens → ((k : ℕ) → dequant size (quantizer_at dc ac k) (pos 0) ≡ pos 0)
      → fill (8 * side (size + 2) * q + 8 * rows) (tiled size dc ac tokens) (replicate 1024 (pos 0)) ≡ fill (8 * side (size + 2) * (q + 1)) (tiled size dc ac tokens) (replicate 1024 (pos 0))
  strip_done rows q h dead zero_token =
      fill_zeros (8 * side (size + 2) * q + 8 * rows) (8 * side (size + 2) * (q + 1)) (tiled size dc ac tokens) (omega (arith, NatL.mul-add (8 * side (size + 2)) q 1))
      (λ p l m. tiled_dead rows q p dead zero_token l m)

  -- the first eight
  pub tiled_first : (j : ℕ) → j < 8 → tiled size dc ac tokens (0 + j) ≡ dequant size (quantizer_at dc ac j) (get_or tokens j (pos 0))
  unfolding tiled
  tiled_first j h =
      let n0 = side (size + 2) in
      let e : source n0 (0 + j) ≡ j = ap (source n0) (let q : 0 + j ≡ (0 * n0 + 0) * 8 + j = omega (arith, NatL.zero-mul n0) in q) ∙ source_at n0 0 0 j (pow_pos (size + 2)) h ∙ omega (arith, NatL.zero-mul n0) in
      rw e

  -- all of them, read row by row
  pub tiled_all : (w : ℕ) (z : List ℤ) → side (size + 2) ≡ w * 8 → area (size + 2) ≤ 1024 → length tokens ≡ area (size + 2)
      → z ≡ fill (area (size + 2)) (tiled size dc ac tokens) (replicate 1024 (pos 0)) → raster (side (size + 2)) z ≡ dequant_all size dc ac tokens
  unfolding tiled dequant_all
  tiled_all w z e room all h =
      let n0 = side (size + 2) in
      sym (raster_is n0 z (tabulate (λ k. dequant size (quantizer_at dc ac k) (get_or tokens k (pos 0))) (length tokens)) (length_tabulate _ (length tokens) ∙ all)
      (λ i j hi hj.
      get_d_tabulate (λ k. dequant size (quantizer_at dc ac k) (get_or tokens k (pos 0))) (length tokens) (i * n0 + j) (pos 0) (rw all (digits_lt hi hj))
      ∙ sym (ap (λ (l : List ℤ). get_or l (place n0 i j) (pos 0)) h
      ∙ fill_below (pos 0) (area (size + 2)) (λ p. dequant size (quantizer_at dc ac (source n0 p)) (get_or tokens (source n0 p) (pos 0))) (replicate 1024 (pos 0)) (place n0 i j) (place_lt n0 w i j e hi hj) (rw (length-replicate 1024 (pos 0)) (NatL.lt_of_lt_of_le (place_lt n0 w i j e hi hj) room))
      ∙ rw (source_place n0 i j hi))))
