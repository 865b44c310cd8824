-- A block at the front of a longer list, and the same block alone: rows and columns of the two agree.
use mathlib.Core.Path.{◌≡◌, sym, ap, ◌∙◌}
use mathlib.Core.List.{List}
use Prim.Native.Nat.{ℕ, ◌+◌, ◌*◌, ◌≤◌, ◌<◌}
use native.Mathlib.Nat.{le_refl, add_comm}
use lib.Arith.{digits_lt}
use lib.IntN.{ℤ, pos}
use lib.ListN.{length, get_or, get_or-eq_default}
use Rattle.whole.specs.Lists.{tabulate, fill}
use Rattle.whole.proofs.Lists.{length_tabulate, get_d_tabulate}
use Rattle.blocks.specs.Block.{row, column, rows, columns}
use Rattle.blocks.proofs.Places.{in_row}
use Rattle.blocks.proofs.Lines.{line_same, fill_length, fill_at, fill_past}
use Rattle.blocks.proofs.Blocks.{block_ext, rows_length, rows_at, rows_past, columns_length, columns_at, columns_past}

module _ (n0 : ℕ) (s : List ℤ) (room : n0 * n0 ≤ length s) where
  abbrev pub front : List ℤ
  front = tabulate (λ k. get_or s k (pos 0)) (n0 * n0)

  front_long : n0 * n0 ≤ length front
  front_long = rw (length_tabulate (λ k. get_or s k (pos 0)) (n0 * n0)) (le_refl (n0 * n0))

  front_at : (k : ℕ) → k < n0 * n0 → get_or front k (pos 0) ≡ get_or s k (pos 0)
  front_at k h = get_d_tabulate (λ k. get_or s k (pos 0)) (n0 * n0) k (pos 0) h

  -- past it there are zeros
  pub front_past : (k : ℕ) → n0 * n0 ≤ k → get_or front k (pos 0) ≡ pos 0
  front_past k h = get_or-eq_default front (pos 0) (rw (length_tabulate (λ k. get_or s k (pos 0)) (n0 * n0)) h)

  pub front_row : (i : ℕ) → i < n0 → row n0 i front ≡ row n0 i s
  front_row i hi = line_same (i * n0) 1 n0 front s (λ k hk. front_at (i * n0 + k * 1) (in_row n0 i k (n0 * n0) hi hk (le_refl (n0 * n0))))

  module _ (R U : List ℤ → List ℤ) where
    rows_agree : (i j : ℕ) → i < n0 → j < n0 → get_or (rows R n0 front) (i * n0 + j) (pos 0) ≡ get_or (rows R n0 s) (i * n0 + j) (pos 0)
    rows_agree i j hi hj =
        rows_at R n0 front front_long i j hi hj ∙ ap (λ (t : List ℤ). get_or (R t) j (pos 0)) (front_row i hi) ∙ sym (rows_at R n0 s room i j hi hj)

    pub front_column : (j : ℕ) → j < n0 → column n0 j (rows R n0 front) ≡ column n0 j (rows R n0 s)
    front_column j hj = line_same j n0 n0 (rows R n0 front) (rows R n0 s) (λ k hk. rw (add_comm j (k * n0)) (rows_agree k j hk hj))

    -- the block alone through both passes, put back
    pub front_both : {v : List ℤ} → v ≡ fill (n0 * n0) (λ k. get_or (columns U (λ z. z) n0 (rows R n0 front)) k (pos 0)) s → v ≡ columns U (λ z. z) n0 (rows R n0 s)
    front_both {v} e =
        let a = rows R n0 front in
        let b = rows R n0 s in
        let g : ℕ → ℤ = λ k. get_or (columns U (λ z. z) n0 a) k (pos 0) in
        let la : n0 * n0 ≤ length a = rw (rows_length R n0 front) front_long in
        let lb : n0 * n0 ≤ length b = rw (rows_length R n0 s) room in
        e
        ∙ block_ext n0 (fill (n0 * n0) g s) (columns U (λ z. z) n0 b)
        (fill_length (n0 * n0) g s ∙ sym (columns_length U (λ z. z) n0 b ∙ rows_length R n0 s))
        (λ i j hi hj.
        fill_at (n0 * n0) g s (i * n0 + j) room (digits_lt hi hj)
        ∙ columns_at U (λ z. z) n0 a la i j hi hj
        ∙ ap (λ (t : List ℤ). get_or (U t) i (pos 0)) (front_column j hj)
        ∙ sym (columns_at U (λ z. z) n0 b lb i j hi hj))
        (λ p h. fill_past (n0 * n0) g s p h ∙ sym (columns_past U (λ z. z) n0 b p h ∙ rows_past R n0 s p h))
