-- The row pass over the rows that are live: they are all that there are to do.
use mathlib.Core.Path.{◌≡◌, refl, sym, ap, ◌∙◌}
use mathlib.Core.Bool.{Bool, true, false}
use mathlib.Core.List.{List, [], ◌∷◌}
use mathlib.Core.Logic.{⊎_elim}
use Prim.Native.Nat.{ℕ, zero, suc, ◌+◌, ◌*◌, ◌≤◌, ◌<◌}
use native.Mathlib.Nat.{mul-one, eq-or-lt_of_le}
use native.Mathlib.Omega.{arith}
use lib.IntN.{ℤ, pos}
use lib.ListN.{length, get_or}
use Rattle.whole.specs.Steps.{run, each}
use Rattle.whole.proofs.Steps.{run_join}
use Rattle.steps.proofs.Shapes.{Zeros}
use Rattle.blocks.specs.Block.{row, rows, change_row, live}
use Rattle.blocks.proofs.Lines.{line_length, line_at, line_same}
use Rattle.blocks.proofs.Live.{dead_at}
use Rattle.blocks.proofs.Blocks.{block_ext, rows_length, rows_at, rows_past, change_row_length, change_row_past, change_row_at, change_row_other}
use Rattle.summary.specs.Summary.{those, live_rows}
use Rattle.summary.proofs.Rows.{those_yes, those_no}

-- ---- OVER LIVE: where T keeps zeros, the rows that are live are all rows
module _ (T : List ℤ → List ℤ) (n0 : ℕ) (s : List ℤ) (short : n0 ≤ 32) (room : n0 * n0 ≤ length s) (zeros : (t : List ℤ) → Zeros n0 t → T t ≡ t) where
  is_live : ℕ → Bool
  is_live i = live (i * n0) n0 s

  -- the rows below k are through T, the others and what is past the block are as they were
  record Upto (k : ℕ) (u : List ℤ) : Type 0 where
    pub long : length u ≡ length s
    pub through : (i j : ℕ) → i < k → i < n0 → j < n0 → get_or u (i * n0 + j) (pos 0) ≡ get_or (T (row n0 i s)) j (pos 0)
    pub still : (i j : ℕ) → k ≤ i → i < n0 → j < n0 → get_or u (i * n0 + j) (pos 0) ≡ get_or s (i * n0 + j) (pos 0)
    pub past : (p : ℕ) → n0 * n0 ≤ p → get_or u p (pos 0) ≡ get_or s p (pos 0)

  -- a dead row is its own transform
  dead_row : (i : ℕ) → live (i * n0) n0 s ≡ false → (j : ℕ) → j < n0 → get_or (T (row n0 i s)) j (pos 0) ≡ get_or s (i * n0 + j) (pos 0)
  dead_row i e j hj =
      let t = row n0 i s in
      let z : Zeros n0 t = record {
        long = rw (line_length (i * n0) 1 n0 s) short;
        zeros = λ k l. line_at (i * n0) 1 n0 s k short l ∙ rw (mul-one k) (dead_at (i * n0) n0 s e k l);
      } in
      ap (λ (x : List ℤ). get_or x j (pos 0)) (zeros t z) ∙ line_at (i * n0) 1 n0 s j short hj ∙ rw (mul-one j)

  more : (k : ℕ) (u : List ℤ) → k < n0 → Upto k u → Upto (suc k) (change_row T n0 k u)
  more k u hk h =
      let same : row n0 k u ≡ row n0 k s = line_same (k * n0) 1 n0 u s (λ j hj. rw (mul-one j) (h.still k j (omega arith) hk hj)) in
      let space : n0 * n0 ≤ length u = rw h.long room in
      record {
        long = change_row_length T n0 k u ∙ h.long;
        through = λ i j hi hn hj. ⊎_elim
            (λ (e : i ≡ k). rw e (change_row_at T n0 k u space hk j hj ∙ ap (λ (t : List ℤ). get_or (T t) j (pos 0)) same))
            (λ (l : i < k). change_row_other T n0 k u short space i hn (λ e. omega arith) j hj ∙ h.through i j l hn hj)
            (eq-or-lt_of_le (omega arith));
        still = λ i j l hn hj. change_row_other T n0 k u short space i hn (λ e. omega arith) j hj ∙ h.still i j (omega arith) hn hj;
        past = λ p l. change_row_past T n0 k u p l ∙ h.past p l;
      }

  pass_over : (k : ℕ) (u : List ℤ) → live (k * n0) n0 s ≡ false → Upto k u → Upto (suc k) u
  pass_over k u e h =
      record {
        long = h.long;
        through = λ i j hi hn hj. ⊎_elim
            (λ (q : i ≡ k). rw q (h.still k j (omega arith) (rw q at hn) hj ∙ sym (dead_row k e j hj)))
            (λ (l : i < k). h.through i j l hn hj)
            (eq-or-lt_of_le (omega arith));
        still = λ i j l hn hj. h.still i j (omega arith) hn hj;
        past = h.past;
      }

  upto : (k : ℕ) → k ≤ n0 → Upto k (run (change_row T n0) (those is_live k) s)
  unfolding those each run is_live
  upto zero h = record { long = refl; through = λ i j hi hn hj. absurd (omega arith); still = λ i j l hn hj. refl; past = λ p l. refl }
  upto (suc k) h = go (is_live k) refl (upto k (omega arith))
    where
      go : (b : Bool) → is_live k ≡ b → Upto k (run (change_row T n0) (those is_live k) s) → Upto (suc k) (run (change_row T n0) (those is_live (suc k)) s)
      go true e u = rw (those_yes is_live k e, run_join (change_row T n0) (those is_live k) (k ∷ []) s) (more k (run (change_row T n0) (those is_live k) s) (omega arith) u)
      go false e u = rw (those_no is_live k e) (pass_over k (run (change_row T n0) (those is_live k) s) e u)

  pub over_live : run (change_row T n0) (live_rows n0 s) s ≡ rows T n0 s
  unfolding live_rows is_live
  over_live =
      let u = run (change_row T n0) (those is_live n0) s in
      let h = upto n0 (omega arith) in
      block_ext n0 u (rows T n0 s) (h.long ∙ sym (rows_length T n0 s))
      (λ i j hi hj. h.through i j hi hi hj ∙ sym (rows_at T n0 s room i j hi hj))
      (λ p l. h.past p l ∙ sym (rows_past T n0 s p l))
