-- `rows` and `columns`, number by number, and that loops over the lines come to them.
use mathlib.Core.Path.{◌≡◌, refl, sym, ap, ◌∙◌}
use mathlib.Core.Bool.{cond}
use mathlib.Core.List.{List}
use mathlib.Core.Logic.{⊎_elim, ◌≢◌}
use Prim.Native.Nat.{ℕ, zero, suc, ◌+◌, ◌*◌, ◌/◌, ◌%◌, ◌≤◌, ◌<◌}
use native.Mathlib.Nat.{eq-or-lt_of_le, mul-one, add_comm, lt_of_lt_of_le}
use native.Mathlib.Decide.{ℕ_discrete}
use native.Mathlib.Omega.{arith}
use borrow.Author.Tests.{lt-ltb, le-ltb, eq-eqb, ne_eqb}
use lib.Arith.{digits_div, digits_mod, digits_lt}
use lib.Dec.{ltb, eqb}
use lib.IntN.{ℤ, pos}
use lib.ListN.{length, get_or, get_or-eq_default}
use lib.Seq.{ext_get_or}
use Rattle.whole.specs.Lists.{tabulate}
use Rattle.whole.specs.Inner.{times}
use Rattle.whole.proofs.Lists.{length_tabulate, get_d_tabulate}
use Rattle.whole.proofs.Loops.{times_keeps}
use Rattle.blocks.specs.Block.{line, row, column, anew, rows, change_row, columns}
use Rattle.blocks.specs.Inner.{change_line}
use Rattle.blocks.proofs.Places.{in_row, in_column, rows_apart, columns_apart, le_or_lt, by_place}
use Rattle.blocks.proofs.Lines.{line_same, line_at, change_line_length, change_line_other, change_line_at}

-- ---- a block made anew
module _ (n0 : ℕ) (f : ℕ → ℕ → ℤ) (s : List ℤ) where
  pub anew_length : length (anew n0 f s) ≡ length s
  unfolding anew
  anew_length = length_tabulate (λ p. cond (ltb p (n0 * n0)) (f (p / n0) (p % n0)) (get_or s p (pos 0))) (length s)

  pub anew_at : n0 * n0 ≤ length s → (i j : ℕ) → i < n0 → j < n0 → get_or (anew n0 f s) (i * n0 + j) (pos 0) ≡ f i j
  unfolding anew
  anew_at room i j hi hj =
      get_d_tabulate (λ p. cond (ltb p (n0 * n0)) (f (p / n0) (p % n0)) (get_or s p (pos 0))) (length s) (i * n0 + j) (pos 0) (lt_of_lt_of_le (digits_lt hi hj) room)
      ∙ rw (lt-ltb (i * n0 + j) (n0 * n0) (digits_lt hi hj), digits_div i hj, digits_mod i hj)

  -- past the block, and past the end of the list
  pub anew_past : (p : ℕ) → n0 * n0 ≤ p → get_or (anew n0 f s) p (pos 0) ≡ get_or s p (pos 0)
  unfolding anew
  anew_past p h = ⊎_elim
      (λ (q : length s ≤ p). get_or-eq_default (tabulate (λ p. cond (ltb p (n0 * n0)) (f (p / n0) (p % n0)) (get_or s p (pos 0))) (length s)) (pos 0) (rw length_tabulate q) ∙ sym (get_or-eq_default s (pos 0) q))
      (λ (q : p < length s). get_d_tabulate (λ p. cond (ltb p (n0 * n0)) (f (p / n0) (p % n0)) (get_or s p (pos 0))) (length s) p (pos 0) q
      ∙ rw (le-ltb p (n0 * n0) h))
      (le_or_lt (length s) p)

-- two lists of one length that agree in the block and past it
pub block_ext : (n0 : ℕ) (s u : List ℤ) → length s ≡ length u → ((i j : ℕ) → i < n0 → j < n0 → get_or s (i * n0 + j) (pos 0) ≡ get_or u (i * n0 + j) (pos 0))
    → ((p : ℕ) → n0 * n0 ≤ p → get_or s p (pos 0) ≡ get_or u p (pos 0)) → s ≡ u
block_ext n0 s u l inside past =
    ext_get_or (pos 0) s u l (λ p _. ⊎_elim (past p) (by_place n0 (λ p. get_or s p (pos 0) ≡ get_or u p (pos 0)) inside p) (le_or_lt (n0 * n0) p))

-- ---- M lines that do not meet: the place `base i + k * step` is of one i and one k alone
module _ (T : List ℤ → List ℤ) (r : ℤ → ℤ) (base : ℕ → ℕ) (step n M : ℕ)
    (apart : (i j k l : ℕ) → i < M → j < M → k < n → l < n → base i + k * step ≡ base j + l * step → (i ≡ j) × (k ≡ l)) where
  lines_length : (m : ℕ) (s : List ℤ) → length (times m (λ i. change_line T r (base i) step n) s) ≡ length s
  lines_length m s = times_keeps (λ y. length y ≡ length s) (λ i. change_line T r (base i) step n) m s (λ i h y e. change_line_length T r (base i) step n y ∙ e) refl

  lines_other : (m : ℕ) (s : List ℤ) (p : ℕ) → ((i k : ℕ) → i < m → k < n → p ≢ base i + k * step)
      → get_or (times m (λ i. change_line T r (base i) step n) s) p (pos 0) ≡ get_or s p (pos 0)
  lines_other m s p away =
      times_keeps (λ y. get_or y p (pos 0) ≡ get_or s p (pos 0)) (λ i. change_line T r (base i) step n) m s
      (λ i h y e. change_line_other T r (base i) step n y p (λ k hk. away i k h hk) ∙ e) refl

  -- a line that is still to come is as it was
  line_to_come : (m : ℕ) (s : List ℤ) → m < M → line (base m) step n (times m (λ i. change_line T r (base i) step n) s) ≡ line (base m) step n s
  line_to_come m s h =
      line_same (base m) step n (times m (λ i. change_line T r (base i) step n) s) s
      (λ j hj. lines_other m s (base m + j * step) (λ a b ha hb q. let z : m ≡ a = (apart m a j b h (omega arith) hj hb q).0 in omega arith))

  lines_at : (m : ℕ) (s : List ℤ) (i k : ℕ) → m ≤ M → i < m → k < n → base i + k * step < length s
      → get_or (times m (λ i. change_line T r (base i) step n) s) (base i + k * step) (pos 0) ≡ r (get_or (T (line (base i) step n s)) k (pos 0))
  unfolding times
  lines_at zero s i k hm hi hk l = absurd (omega arith)
  lines_at (suc m) s i k hm hi hk l = ⊎_elim
      (λ (e : i ≡ m). rw e
      (change_line_at T r (base m) step n (times m (λ i. change_line T r (base i) step n) s) k hk (rw (lines_length m s) (rw e at l))
      (λ j hj kj q. let z : k ≡ j = (apart m m k j (omega arith) (omega arith) hk hj q).1 in omega arith)
      ∙ ap (λ (t : List ℤ). r (get_or (T t) k (pos 0))) (line_to_come m s (omega arith))))
      (λ (h : i < m). change_line_other T r (base m) step n (times m (λ i. change_line T r (base i) step n) s) (base i + k * step)
      (λ j hj q. let z : i ≡ m = (apart i m k j (omega arith) (omega arith) hk hj q).0 in omega arith)
      ∙ lines_at m s i k (omega arith) h hk l)
      (eq-or-lt_of_le (omega arith))

-- ---- rows and columns: the length, number (i, j), what is past the block
module _ (T : List ℤ → List ℤ) (n0 : ℕ) (s : List ℤ) where
  pub rows_length : length (rows T n0 s) ≡ length s
  unfolding rows
  rows_length = anew_length n0 (λ i j. get_or (T (row n0 i s)) j (pos 0)) s

  pub rows_at : n0 * n0 ≤ length s → (i j : ℕ) → i < n0 → j < n0 → get_or (rows T n0 s) (i * n0 + j) (pos 0) ≡ get_or (T (row n0 i s)) j (pos 0)
  unfolding rows
  rows_at room i j hi hj = anew_at n0 (λ i j. get_or (T (row n0 i s)) j (pos 0)) s room i j hi hj

  pub rows_past : (p : ℕ) → n0 * n0 ≤ p → get_or (rows T n0 s) p (pos 0) ≡ get_or s p (pos 0)
  unfolding rows
  rows_past p h = anew_past n0 (λ i j. get_or (T (row n0 i s)) j (pos 0)) s p h

  -- a loop over the rows: what it has done after n0 turns, and which row it meets in turn i
  pub rows_loop : n0 * n0 ≤ length s → times n0 (λ i. change_line T (λ z. z) (i * n0) 1 n0) s ≡ rows T n0 s
  rows_loop room =
      let after = times n0 (λ i. change_line T (λ z. z) (i * n0) 1 n0) s in
      block_ext n0 after (rows T n0 s)
      (lines_length T (λ z. z) (λ i. i * n0) 1 n0 n0 (rows_apart n0) n0 s ∙ sym rows_length)
      (λ i j hi hj. rw (mul-one j) at (lines_at T (λ z. z) (λ i. i * n0) 1 n0 n0 (rows_apart n0) n0 s i j (omega arith) hi hj (in_row n0 i j (length s) hi hj room)) ∙ sym (rows_at room i j hi hj))
      (λ p h. lines_other T (λ z. z) (λ i. i * n0) 1 n0 n0 (rows_apart n0) n0 s p
      (λ i k hi hk e. let z : i * n0 + k * 1 < n0 * n0 = in_row n0 i k (n0 * n0) hi hk (omega arith) in omega arith)
      ∙ sym (rows_past p h))

  pub row_to_come : (i : ℕ) → i < n0 → row n0 i (times i (λ i. change_line T (λ z. z) (i * n0) 1 n0) s) ≡ row n0 i s
  row_to_come i h = line_to_come T (λ z. z) (λ i. i * n0) 1 n0 n0 (rows_apart n0) i s h

-- ---- one row changed: its numbers, all others, what is past the block; and that a line stored in its place is this
module _ (T : List ℤ → List ℤ) (n0 i : ℕ) (s : List ℤ) where
  pub change_row_length : length (change_row T n0 i s) ≡ length s
  unfolding change_row
  change_row_length = anew_length n0 (λ k j. get_or (cond (eqb k i) (T (row n0 i s)) (row n0 k s)) j (pos 0)) s

  pub change_row_past : (p : ℕ) → n0 * n0 ≤ p → get_or (change_row T n0 i s) p (pos 0) ≡ get_or s p (pos 0)
  unfolding change_row
  change_row_past p h = anew_past n0 (λ k j. get_or (cond (eqb k i) (T (row n0 i s)) (row n0 k s)) j (pos 0)) s p h

  pub change_row_at : n0 * n0 ≤ length s → i < n0 → (j : ℕ) → j < n0 → get_or (change_row T n0 i s) (i * n0 + j) (pos 0) ≡ get_or (T (row n0 i s)) j (pos 0)
  unfolding change_row
  change_row_at room hi j hj =
      anew_at n0 (λ k j. get_or (cond (eqb k i) (T (row n0 i s)) (row n0 k s)) j (pos 0)) s room i j hi hj ∙ rw (eq-eqb i i refl)

  pub change_row_other : n0 ≤ 32 → n0 * n0 ≤ length s → (k : ℕ) → k < n0 → k ≢ i → (j : ℕ) → j < n0 → get_or (change_row T n0 i s) (k * n0 + j) (pos 0) ≡ get_or s (k * n0 + j) (pos 0)
  unfolding change_row
  change_row_other short room k hk ne j hj =
      anew_at n0 (λ k j. get_or (cond (eqb k i) (T (row n0 i s)) (row n0 k s)) j (pos 0)) s room k j hk hj
      ∙ rw (ne_eqb k i ne) (rw (mul-one j) at (line_at (k * n0) 1 n0 s j short hj))

  pub change_row_line : n0 ≤ 32 → n0 * n0 ≤ length s → i < n0 → change_line T (λ z. z) (i * n0) 1 n0 s ≡ change_row T n0 i s
  change_row_line short room hi =
      block_ext n0 (change_line T (λ z. z) (i * n0) 1 n0 s) (change_row T n0 i s)
      (change_line_length T (λ z. z) (i * n0) 1 n0 s ∙ sym change_row_length)
      (λ k j hk hj. by k j hk hj (ℕ_discrete k i))
      (λ p h. change_line_other T (λ z. z) (i * n0) 1 n0 s p (λ k hk e. let z : i * n0 + k * 1 < n0 * n0 = in_row n0 i k (n0 * n0) hi hk (omega arith) in omega arith)
      ∙ sym (change_row_past p h))
    where
      by : (k j : ℕ) → k < n0 → j < n0 → Dec (k ≡ i) → get_or (change_line T (λ z. z) (i * n0) 1 n0 s) (k * n0 + j) (pos 0) ≡ get_or (change_row T n0 i s) (k * n0 + j) (pos 0)
      by k j hk hj (yes e) =
          rw e
          (rw (mul-one j) at (change_line_at T (λ z. z) (i * n0) 1 n0 s j hj (in_row n0 i j (length s) hi hj room)
          (λ l hl q w. let z : j ≡ l = (rows_apart n0 i i j l hi hi hj hl w).1 in omega arith))
          ∙ sym (change_row_at room hi j hj))
      by k j hk hj (no ne) =
          change_line_other T (λ z. z) (i * n0) 1 n0 s (k * n0 + j)
          (λ l hl w. ne (rows_apart n0 k i j l hk hi hj hl (rw (mul-one j) w)).0)
          ∙ sym (change_row_other short room k hk ne j hj)

module _ (T : List ℤ → List ℤ) (r : ℤ → ℤ) (n0 : ℕ) (s : List ℤ) where
  pub columns_length : length (columns T r n0 s) ≡ length s
  unfolding columns
  columns_length = anew_length n0 (λ i j. r (get_or (T (column n0 j s)) i (pos 0))) s

  pub columns_at : n0 * n0 ≤ length s → (i j : ℕ) → i < n0 → j < n0 → get_or (columns T r n0 s) (i * n0 + j) (pos 0) ≡ r (get_or (T (column n0 j s)) i (pos 0))
  unfolding columns
  columns_at room i j hi hj = anew_at n0 (λ i j. r (get_or (T (column n0 j s)) i (pos 0))) s room i j hi hj

  pub columns_past : (p : ℕ) → n0 * n0 ≤ p → get_or (columns T r n0 s) p (pos 0) ≡ get_or s p (pos 0)
  unfolding columns
  columns_past p h = anew_past n0 (λ i j. r (get_or (T (column n0 j s)) i (pos 0))) s p h

  pub columns_loop : n0 * n0 ≤ length s → times n0 (λ j. change_line T r j n0 n0) s ≡ columns T r n0 s
  columns_loop room =
      let after = times n0 (λ j. change_line T r j n0 n0) s in
      block_ext n0 after (columns T r n0 s)
      (lines_length T r (λ j. j) n0 n0 n0 (columns_apart n0) n0 s ∙ sym columns_length)
      (λ i j hi hj. rw (add_comm j (i * n0)) at (lines_at T r (λ j. j) n0 n0 n0 (columns_apart n0) n0 s j i (omega arith) hj hi (in_column n0 j i (length s) hj hi room)) ∙ sym (columns_at room i j hi hj))
      (λ p h. lines_other T r (λ j. j) n0 n0 n0 (columns_apart n0) n0 s p
      (λ j k hj hk e. let z : j + k * n0 < n0 * n0 = in_column n0 j k (n0 * n0) hj hk (omega arith) in omega arith)
      ∙ sym (columns_past p h))

  pub column_to_come : (j : ℕ) → j < n0 → column n0 j (times j (λ j. change_line T r j n0 n0) s) ≡ column n0 j s
  column_to_come j h = line_to_come T r (λ j. j) n0 n0 n0 (columns_apart n0) j s h
