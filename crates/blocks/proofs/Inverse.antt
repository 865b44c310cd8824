-- Laws of the two-dimensional inverse transform: number (i, j), what is past the block, ranges through both passes, the DC-only case.
use mathlib.Core.Path.{◌≡◌, sym, ap, ◌∙◌}
use mathlib.Core.Bool.{Bool, true, false}
use mathlib.Core.List.{List}
use Prim.Native.Nat.{ℕ, ◌+◌, ◌-◌, ◌*◌, ◌/◌, ◌^◌, ◌≤◌, ◌<◌}
use native.Mathlib.Nat as NatL
use native.Mathlib.Omega.{arith}
use lib.Arith.{digits_lt}
use lib.IntN.{ℤ, pos}
use lib.Pow.{pow_pos}
use lib.ListN.{length, get_or}
use Rattle.whole.specs.Lists.{fill}
use Rattle.whole.specs.Round.{Round2}
use Rattle.whole.specs.Within.{Within}
use Rattle.whole.proofs.Round.{round2_within}
use Rattle.whole.proofs.Within.{within_le}
use Rattle.steps.specs.Inner.{turned}
use Rattle.steps.proofs.Shapes.{Zeros, Alone}
use Rattle.dct.proofs.Dct.{dct_dc, dct_zeros, two_to_five}
use Rattle.blocks.specs.Block.{row, column, anew, rows, columns, rows_then_columns, live}
use Rattle.blocks.specs.Inner.{FirstWithin, dc_value, Possible, Safe}
use Rattle.blocks.specs.Inverse.{Pass, Dct, apply, row_pass, column_pass, bits, rounding, inverse2d}
use Rattle.blocks.proofs.Places.{in_row, in_column, by_place}
use Rattle.blocks.proofs.Lines.{line_length, line_at, fill_length, fill_at, fill_past}
use Rattle.blocks.proofs.Live.{dead_at}
use Rattle.blocks.proofs.Blocks.{anew_length, anew_at, anew_past, block_ext, rows_length, rows_at, rows_past, columns_length, columns_at, columns_past}
use Rattle.blocks.proofs.Passes.{Valid, first_each, each_first, pass_row, pass_column, row_valid, column_valid}

-- ---- number by number
module _ (n tx_type : ℕ) (lossless : Bool) (s : List ℤ) where
  pub inverse2d_length : length (inverse2d n tx_type lossless s) ≡ length s
  unfolding inverse2d rows_then_columns
  inverse2d_length =
      columns_length (apply (column_pass tx_type lossless) n) (rounding n lossless) (2 ^ n) (rows (apply (row_pass tx_type lossless) n) (2 ^ n) s)
      ∙ rows_length (apply (row_pass tx_type lossless) n) (2 ^ n) s

  -- number (i, j): number i of the column transform of column j of what the rows are, rounded
  pub inverse2d_at : 2 ^ n * 2 ^ n ≤ length s → (i j : ℕ) → i < 2 ^ n → j < 2 ^ n
      → get_or (inverse2d n tx_type lossless s) (i * 2 ^ n + j) (pos 0)
      ≡ rounding n lossless (get_or (apply (column_pass tx_type lossless) n (column (2 ^ n) j (rows (apply (row_pass tx_type lossless) n) (2 ^ n) s))) i (pos 0))
  unfolding inverse2d rows_then_columns
  inverse2d_at room i j hi hj =
      columns_at (apply (column_pass tx_type lossless) n) (rounding n lossless) (2 ^ n) (rows (apply (row_pass tx_type lossless) n) (2 ^ n) s)
      (rw (rows_length (apply (row_pass tx_type lossless) n) (2 ^ n) s) room) i j hi hj

  pub inverse2d_past : (p : ℕ) → 2 ^ n * 2 ^ n ≤ p → get_or (inverse2d n tx_type lossless s) p (pos 0) ≡ get_or s p (pos 0)
  unfolding inverse2d rows_then_columns
  inverse2d_past p h =
      columns_past (apply (column_pass tx_type lossless) n) (rounding n lossless) (2 ^ n) (rows (apply (row_pass tx_type lossless) n) (2 ^ n) s) p h
      ∙ rows_past (apply (row_pass tx_type lossless) n) (2 ^ n) s p h

-- ---- lines of a block within m are within m; a block is within m where its lines are
pub row_within : (n0 m : ℕ) (s : List ℤ) → n0 ≤ 32 → FirstWithin m (n0 * n0) s → (i : ℕ) → i < n0 → FirstWithin m n0 (row n0 i s)
row_within n0 m s h b i hi =
    record { each = λ k hk. rw (line_at (i * n0) 1 n0 s k h hk) (b.each (i * n0 + k * 1) (in_row n0 i k (n0 * n0) hi hk (omega arith))) }

pub column_within : (n0 m : ℕ) (s : List ℤ) → n0 ≤ 32 → FirstWithin m (n0 * n0) s → (j : ℕ) → j < n0 → FirstWithin m n0 (column n0 j s)
column_within n0 m s h b j hj =
    record { each = λ k hk. rw (line_at j n0 n0 s k h hk) (b.each (j + k * n0) (in_column n0 j k (n0 * n0) hj hk (omega arith))) }

-- a number up to 5 bits long has at most 32 values
pub side_most : (n : ℕ) → 2 ≤ n → n ≤ 5 → 2 ^ n ≤ 32
side_most = two_to_five (λ n. 2 ^ n ≤ 32) (omega arith) (omega arith) (omega arith) (omega arith)

-- ---- RANGES through both passes, over the pass
module _ (n : ℕ) (l : 2 ≤ n) (h : n ≤ 5) (p : Pass) (s : List ℤ) (room : 2 ^ n * 2 ^ n ≤ length s) where
  -- row i: safe to transform
  pub row_safe : Valid 2 p n → FirstWithin (2 ^ 31) (2 ^ n * 2 ^ n) s → (i : ℕ) → i < 2 ^ n → Safe p n (row (2 ^ n) i s)
  row_safe v b i hi = (pass_row p n v (first_each (row_within (2 ^ n) (2 ^ 31) s (side_most n l h) b i hi))).0

  pub row_grown : Valid 2 p n → FirstWithin (2 ^ 31) (2 ^ n * 2 ^ n) s → (i : ℕ) → i < 2 ^ n → FirstWithin (2 ^ 43) (2 ^ n) (apply p n (row (2 ^ n) i s))
  row_grown v b i hi =
      let d = each_first (2 ^ 37) (2 ^ n) (pass_row p n v (first_each (row_within (2 ^ n) (2 ^ 31) s (side_most n l h) b i hi))).1 in
      record { each = λ k q. within_le (omega arith) (d.each k q) }

  pub rows_within : Valid 2 p n → FirstWithin (2 ^ 31) (2 ^ n * 2 ^ n) s → FirstWithin (2 ^ 37) (2 ^ n * 2 ^ n) (rows (apply p n) (2 ^ n) s)
  rows_within v b =
      record {
        each = by_place (2 ^ n) (λ k. Within (2 ^ 37) (get_or (rows (apply p n) (2 ^ n) s) k (pos 0)))
            (λ i j hi hj. rw (rows_at (apply p n) (2 ^ n) s room i j hi hj)
            ((each_first (2 ^ 37) (2 ^ n) (pass_row p n v (first_each (row_within (2 ^ n) (2 ^ 31) s (side_most n l h) b i hi))).1).each j hj));
      }

  -- column j: safe to transform, and its numbers before they are rounded
  pub column_safe : Valid 0 p n → FirstWithin (2 ^ 37) (2 ^ n * 2 ^ n) s → (j : ℕ) → j < 2 ^ n → Safe p n (column (2 ^ n) j s)
  column_safe v b j hj = (pass_column p n v (first_each (column_within (2 ^ n) (2 ^ 37) s (side_most n l h) b j hj))).0

  pub column_grown : Valid 0 p n → FirstWithin (2 ^ 37) (2 ^ n * 2 ^ n) s → (j : ℕ) → j < 2 ^ n → FirstWithin (2 ^ 43) (2 ^ n) (apply p n (column (2 ^ n) j s))
  column_grown v b j hj = each_first (2 ^ 43) (2 ^ n) (pass_column p n v (first_each (column_within (2 ^ n) (2 ^ 37) s (side_most n l h) b j hj))).1

-- after the rows: the room is the same, and the columns' range
pub after_rows : (p : Pass) (n : ℕ) → 2 ≤ n → n ≤ 5 → Valid 2 p n → (s u : List ℤ) → 2 ^ n * 2 ^ n ≤ length s → FirstWithin (2 ^ 31) (2 ^ n * 2 ^ n) s
    → u ≡ rows (apply p n) (2 ^ n) s → (2 ^ n * 2 ^ n ≤ length u) × FirstWithin (2 ^ 37) (2 ^ n * 2 ^ n) u
after_rows p n l h v s u room b e =
    rw e (rw (rows_length (apply p n) (2 ^ n) s) room, rows_within n l h p s room v b)

-- rows, then columns
pub both_passes : (n tx_type : ℕ) (lossless : Bool) (s u : List ℤ) {v : List ℤ} → u ≡ rows (apply (row_pass tx_type lossless) n) (2 ^ n) s
    → v ≡ columns (apply (column_pass tx_type lossless) n) (rounding n lossless) (2 ^ n) u → v ≡ inverse2d n tx_type lossless s
unfolding inverse2d rows_then_columns
both_passes n tx_type lossless s u e f = f ∙ ap (columns (apply (column_pass tx_type lossless) n) (rounding n lossless) (2 ^ n)) e

-- the rounding takes nothing further from 0 than 2^43
rounding_within : (n : ℕ) (lossless : Bool) {z : ℤ} → 2 ≤ n → n ≤ 5 → Within (2 ^ 43) z → Within (2 ^ 43) (rounding n lossless z)
unfolding rounding
rounding_within n true l h b = b
rounding_within n false {z} l h b =
    within_le (two_to_five (λ n. (2 ^ 43 + 2 ^ (bits n - 1)) / 2 ^ bits n ≤ 2 ^ 43) (omega arith) (omega arith) (omega arith) (omega arith) n l h)
    (round2_within (bits n) (two_to_five (λ n. 1 ≤ bits n) (omega arith) (omega arith) (omega arith) (omega arith) n l h) b)

-- the residual of a block within 2^31 is within 2^43
pub inverse2d_within : (n tx_type : ℕ) (lossless : Bool) (s : List ℤ) → Possible n tx_type lossless → 2 ^ n * 2 ^ n ≤ length s → FirstWithin (2 ^ 31) (2 ^ n * 2 ^ n) s
    → FirstWithin (2 ^ 43) (2 ^ n * 2 ^ n) (inverse2d n tx_type lossless s)
inverse2d_within n tx_type lossless s q room b =
    let R = apply (row_pass tx_type lossless) n in
    record {
      each = by_place (2 ^ n) (λ k. Within (2 ^ 43) (get_or (inverse2d n tx_type lossless s) k (pos 0)))
          (λ i j hi hj. rw (inverse2d_at n tx_type lossless s room i j hi hj)
          (rounding_within n lossless q.least q.most
          ((column_grown n q.least q.most (column_pass tx_type lossless) (rows R (2 ^ n) s) (rw (rows_length R (2 ^ n) s) room)
          (column_valid n tx_type lossless q) (rows_within n q.least q.most (row_pass tx_type lossless) s room (row_valid n tx_type lossless q) b) j hj).each i hi)));
    }

-- ---- DC-ONLY: where all but place 0 is 0, type 0 gives one number everywhere
module _ (n : ℕ) (l : 2 ≤ n) (h : n ≤ 5) (s : List ℤ) (room : 2 ^ n * 2 ^ n ≤ length s) (dead : live 1 (2 ^ n * 2 ^ n - 1) s ≡ false) where
  -- place k of the block, other than 0
  other : (k : ℕ) → 0 < k → k < 2 ^ n * 2 ^ n → get_or s k (pos 0) ≡ pos 0
  other k z q =
      let e : 1 + (k - 1) ≡ k = omega arith in
      rw e at (dead_at 1 (2 ^ n * 2 ^ n - 1) s dead (k - 1) (omega arith))

  first_row : Alone (2 ^ n) (get_or s 0 (pos 0)) (row (2 ^ n) 0 s)
  first_row = record {
    long = rw (line_length (0 * 2 ^ n) 1 (2 ^ n) s) (side_most n l h);
    here = line_at (0 * 2 ^ n) 1 (2 ^ n) s 0 (side_most n l h) (pow_pos n) ∙ rw (NatL.zero-mul (2 ^ n));
    zeros = λ k z q. line_at (0 * 2 ^ n) 1 (2 ^ n) s k (side_most n l h) q
        ∙ other (0 * 2 ^ n + k * 1) (omega arith) (in_row (2 ^ n) 0 k (2 ^ n * 2 ^ n) (pow_pos n) q (omega arith));
  }

  other_row : (i : ℕ) → 0 < i → i < 2 ^ n → Zeros (2 ^ n) (row (2 ^ n) i s)
  other_row i z hi = record {
    long = rw (line_length (i * 2 ^ n) 1 (2 ^ n) s) (side_most n l h);
    zeros = λ k q. line_at (i * 2 ^ n) 1 (2 ^ n) s k (side_most n l h) q
        ∙ other (i * 2 ^ n + k * 1) (omega (arith, NatL.mul-le-mul z (pow_pos n))) (in_row (2 ^ n) i k (2 ^ n * 2 ^ n) hi q (omega arith));
  }

  rows_done : List ℤ
  rows_done = rows (apply Dct n) (2 ^ n) s

  -- every column is its first number alone, the same for all
  each_column : (j : ℕ) → j < 2 ^ n → Alone (2 ^ n) (turned (get_or s 0 (pos 0))) (column (2 ^ n) j rows_done)
  unfolding rows_done apply turned
  each_column j hj = record {
    long = rw (line_length j (2 ^ n) (2 ^ n) rows_done) (side_most n l h);
    here = line_at j (2 ^ n) (2 ^ n) rows_done 0 (side_most n l h) (pow_pos n)
        ∙ rw (NatL.add_comm j (0 * 2 ^ n)) (rows_at (apply Dct n) (2 ^ n) s room 0 j (pow_pos n) hj ∙ dct_dc n l h first_row j hj);
    zeros = λ k z q. line_at j (2 ^ n) (2 ^ n) rows_done k (side_most n l h) q
        ∙ rw (NatL.add_comm j (k * 2 ^ n)) (rows_at (apply Dct n) (2 ^ n) s room k j q hj
        ∙ rw (dct_zeros n l h (other_row k z q)) ((other_row k z q).zeros j hj));
  }

  pub dc_only_lem : inverse2d n 0 false s ≡ anew (2 ^ n) (λ i j. dc_value n (get_or s 0 (pos 0))) s
  unfolding rows_done apply turned rounding dc_value
  dc_only_lem =
      block_ext (2 ^ n) (inverse2d n 0 false s) (anew (2 ^ n) (λ i j. dc_value n (get_or s 0 (pos 0))) s)
      (inverse2d_length n 0 false s ∙ sym (anew_length (2 ^ n) (λ i j. dc_value n (get_or s 0 (pos 0))) s))
      (λ i j hi hj. inverse2d_at n 0 false s room i j hi hj
      ∙ ap (λ (z : ℤ). Round2 z (bits n)) (dct_dc n l h (each_column j hj) i hi)
      ∙ sym (anew_at (2 ^ n) (λ i j. dc_value n (get_or s 0 (pos 0))) s room i j hi hj))
      (λ p q. inverse2d_past n 0 false s p q ∙ sym (anew_past (2 ^ n) (λ i j. dc_value n (get_or s 0 (pos 0))) s p q))

-- the block filled with one number
pub filled : (n0 : ℕ) (v : ℤ) (s : List ℤ) → n0 * n0 ≤ length s → fill (n0 * n0) (λ k. v) s ≡ anew n0 (λ i j. v) s
filled n0 v s room =
    block_ext n0 (fill (n0 * n0) (λ k. v) s) (anew n0 (λ i j. v) s)
    (fill_length (n0 * n0) (λ k. v) s ∙ sym (anew_length n0 (λ i j. v) s))
    (λ i j hi hj. fill_at (n0 * n0) (λ k. v) s (i * n0 + j) room (digits_lt hi hj) ∙ sym (anew_at n0 (λ i j. v) s room i j hi hj))
    (λ p q. fill_past (n0 * n0) (λ k. v) s p q ∙ sym (anew_past n0 (λ i j. v) s p q))
