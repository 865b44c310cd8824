-- Laws of the two passes: ranges, the lines still to come, and that rows and then columns give the double sum.
use mathlib.Core.Path.{◌≡◌, sym, ap, ◌∙◌}
use mathlib.Core.List.{List}
use Prim.Native.Nat.{ℕ, ◌+◌, ◌*◌, ◌/◌, ◌%◌, ◌≤◌, ◌<◌}
use native.Mathlib.Nat as NatL
use native.Mathlib.Omega.{arith}
use lib.IntN.{ℤ, pos, ◌*ℤ◌}
use lib.ListN.{length, get_or}
use lib.Pow.{pow_pos}
use Rattle.whole.specs.Lists.{fill}
use Rattle.whole.specs.Round.{Round2}
use Rattle.whole.specs.Within.{Within}
use Rattle.whole.specs.Inner.{times}
use Rattle.whole.proofs.Lists.{length_fill, fill_below, tabulate_is}
use Rattle.answers.specs.Sizes.{side, area}
use Rattle.basis.specs.Basis.{basis_at}
use Rattle.blocks.specs.Block.{row, column, rows, columns}
use Rattle.blocks.specs.Inner.{change_line, FirstWithin}
use Rattle.blocks.proofs.Lines.{line_length, line_at}
use Rattle.blocks.proofs.Blocks.{rows_length, rows_at, row_to_come, columns_length, columns_at, column_to_come}
use Rattle.blocks.proofs.Places.{in_row, in_column, by_place}
use Rattle.fwd_dct.specs.Sum.{sum}
use Rattle.fwd_dct.specs.Forward.{exact, bits, forward_dct}
use Rattle.fwd_dct.specs.Inner.{line_sum, line_of}
use Rattle.fwd_dct.proofs.Sums.{sum_same, sum_scaled}
use Rattle.fwd_dct.proofs.Lines.{coef_at, line_sum_within, side_most}

module _ (n : ℕ) (l : 2 ≤ n) (h : n ≤ 5) where
  -- ---- a line of a block, number by number
  row_at : (s : List ℤ) (i k : ℕ) → k < side n → get_or (row (side n) i s) k (pos 0) ≡ get_or s (i * side n + k * 1) (pos 0)
  row_at s i k q = line_at (i * side n) 1 (side n) s k (side_most n l h) q

  column_at : (s : List ℤ) (j k : ℕ) → k < side n → get_or (column (side n) j s) k (pos 0) ≡ get_or s (j + k * side n) (pos 0)
  column_at s j k q = line_at j (side n) (side n) s k (side_most n l h) q

  row_coef : (s : List ℤ) (i j : ℕ) → area n ≤ length s → i < side n → j < side n → get_or (rows (line_of n) (side n) s) (i * side n + j) (pos 0) ≡ line_sum n (row (side n) i s) j
  row_coef s i j room hi hj = rows_at (line_of n) (side n) s room i j hi hj ∙ coef_at n (row (side n) i s) j l h (line_length (i * side n) 1 (side n) s) hj

  column_coef : (s : List ℤ) (i j : ℕ) → area n ≤ length s → i < side n → j < side n → get_or (columns (line_of n) (λ z. z) (side n) s) (i * side n + j) (pos 0) ≡ line_sum n (column (side n) j s) i
  column_coef s i j room hi hj = columns_at (line_of n) (λ z. z) (side n) s room i j hi hj ∙ coef_at n (column (side n) j s) i l h (line_length j (side n) (side n) s) hi

  -- ---- ranges
  module _ (m : ℕ) (s : List ℤ) (room : area n ≤ length s) (b : FirstWithin m (area n) s) where
    row_within : (i k : ℕ) → i < side n → k < side n → Within m (get_or s (i * side n + k * 1) (pos 0))
    row_within i k hi hk = b.each (i * side n + k * 1) (in_row (side n) i k (area n) hi hk (NatL.le_refl (area n)))

    column_within : (j k : ℕ) → j < side n → k < side n → Within m (get_or s (j + k * side n) (pos 0))
    column_within j k hj hk = b.each (j + k * side n) (in_column (side n) j k (area n) hj hk (NatL.le_refl (area n)))

    pub rows_within : FirstWithin (32 * (m * 16384)) (area n) (rows (line_of n) (side n) s)
    rows_within = record {
      each = by_place (side n) (λ p. Within (32 * (m * 16384)) (get_or (rows (line_of n) (side n) s) p (pos 0)))
          (λ i j hi hj. rw (row_coef s i j room hi hj) (line_sum_within m n (row (side n) i s) j l h (λ k q. rw (row_at s i k q) (row_within i k hi q))));
    }

    pub columns_within : FirstWithin (32 * (m * 16384)) (area n) (columns (line_of n) (λ z. z) (side n) s)
    columns_within = record {
      each = by_place (side n) (λ p. Within (32 * (m * 16384)) (get_or (columns (line_of n) (λ z. z) (side n) s) p (pos 0)))
          (λ i j hi hj. rw (column_coef s i j room hi hj) (line_sum_within m n (column (side n) j s) i l h (λ k q. rw (column_at s j k q) (column_within j k hj q))));
    }

    -- the line of a turn is as it was before the first
    pub row_kept : (i : ℕ) (u : List ℤ) → i < side n → u ≡ times i (λ i. change_line (line_of n) (λ z. z) (i * side n) 1 (side n)) s
        → (k : ℕ) → k < side n → Within m (get_or u (i * side n + k * 1) (pos 0))
    row_kept i u hi e k q =
        rw (sym (row_at u i k q) ∙ ap (λ (t : List ℤ). get_or t k (pos 0)) (ap (row (side n) i) e ∙ row_to_come (line_of n) (side n) s i hi) ∙ row_at s i k q) (row_within i k hi q)

    pub column_kept : (j : ℕ) (u : List ℤ) → j < side n → u ≡ times j (λ j. change_line (line_of n) (λ z. z) j (side n) (side n)) s
        → (k : ℕ) → k < side n → Within m (get_or u (j + k * side n) (pos 0))
    column_kept j u hj e k q =
        rw (sym (column_at u j k q) ∙ ap (λ (t : List ℤ). get_or t k (pos 0)) (ap (column (side n) j) e ∙ column_to_come (line_of n) (λ z. z) (side n) s j hj) ∙ column_at s j k q) (column_within j k hj q)

  -- ---- the double sum by rows and columns
  by_passes : (s : List ℤ) → area n ≤ length s → (u v : ℕ) → u < side n → v < side n
      → get_or (columns (line_of n) (λ z. z) (side n) (rows (line_of n) (side n) s)) (u * side n + v) (pos 0) ≡ exact n s u v
  unfolding exact line_sum
  by_passes s room u v hu hv =
      let r = rows (line_of n) (side n) s in
      column_coef r u v (rw (rows_length (line_of n) (side n) s) room) hu hv
      ∙ sum_same _ _ (side n) (λ i q. ap (λ (z : ℤ). z *ℤ basis_at n u i) (number i q) ∙ sum_scaled _ (basis_at n u i) (side n))
    where
      number : (i : ℕ) → i < side n → get_or (column (side n) v (rows (line_of n) (side n) s)) i (pos 0) ≡ sum (side n) (λ j. get_or s (i * side n + j) (pos 0) *ℤ basis_at n v j)
      number i q =
          column_at (rows (line_of n) (side n) s) v i q
          ∙ ap (λ (p : ℕ). get_or (rows (line_of n) (side n) s) p (pos 0)) (NatL.add_comm v (i * side n))
          ∙ row_coef s i v room q hv
          ∙ sum_same _ _ (side n) (λ j p. ap (λ (z : ℤ). z *ℤ basis_at n v j) (row_at s i j p ∙ ap (λ (k : ℕ). get_or s (i * side n + k) (pos 0)) (NatL.mul-one j)))

  -- rounded once, number by number
  pub whole : (s : List ℤ) → length s ≡ area n
      → fill (area n) (λ p. Round2 (get_or (columns (line_of n) (λ z. z) (side n) (rows (line_of n) (side n) s)) p (pos 0)) (bits n)) (columns (line_of n) (λ z. z) (side n) (rows (line_of n) (side n) s)) ≡ forward_dct n s
  unfolding forward_dct
  whole s e =
      let r = rows (line_of n) (side n) s in
      let c = columns (line_of n) (λ z. z) (side n) r in
      let long : length c ≡ area n = columns_length (line_of n) (λ z. z) (side n) r ∙ rows_length (line_of n) (side n) s ∙ e in
      tabulate_is (pos 0) (λ p. Round2 (exact n s (p / side n) (p % side n)) (bits n)) (fill (area n) (λ p. Round2 (get_or c p (pos 0)) (bits n)) c) (area n)
      (length_fill (area n) _ c ∙ long)
      (λ p q. fill_below (pos 0) (area n) _ c p q (omega arith) ∙ ap (λ (z : ℤ). Round2 z (bits n)) (place p q))
    where
      place : (p : ℕ) → p < area n → get_or (columns (line_of n) (λ z. z) (side n) (rows (line_of n) (side n) s)) p (pos 0) ≡ exact n s (p / side n) (p % side n)
      place p q =
          rw (NatL.div-add-mod' p (side n)) at (by_passes s (omega arith) (p / side n) (p % side n) ((NatL.div-lt_iff_lt-mul (pow_pos n)).1 q) (NatL.mod-lt p (pow_pos n)))

-- THE DOUBLE SUM: rows and then columns give it
pub two_passes : (n : ℕ) → 2 ≤ n → n ≤ 5 → (s : List ℤ) → area n ≤ length s → (u v : ℕ) → u < side n → v < side n
    → get_or (columns (line_of n) (λ z. z) (side n) (rows (line_of n) (side n) s)) (u * side n + v) (pos 0) ≡ exact n s u v
two_passes n l h = by_passes n l h
