-- Laws of the forward WHT: its passes line by line, how far it reaches, and that the lossless inverse undoes it.
use mathlib.Core.Path.{◌≡◌, refl, sym, ap, ◌∙◌}
use mathlib.Core.Bool.{Bool, true, false, not, cond}
use mathlib.Core.List.{List}
use mathlib.Core.Logic.{⊎_elim}
use Prim.Native.Nat.{ℕ, ◌+◌, ◌-◌, ◌*◌, ◌/◌, ◌%◌, ◌^◌, ◌≤◌, ◌<◌}
use native.Mathlib.Nat as NatL
use native.Mathlib.Omega.{arith}
use borrow.Author.Tests.{eqb-true, eq-eqb, ne_eqb, not-false}
use lib.Dec.{eqb}
use lib.IntN.{ℤ, pos, nat_abs, ◌*ℤ◌}
use lib.ListN.{length, get_or, replicate, get_or-replicate}
use lib.Seq.{ext_get_or}
use lib.Signed.{quot_z}
use Rattle.whole.specs.Within.{Within}
use Rattle.whole.proofs.Within.{EachWithin, within_le, abs_bd}
use Rattle.whole.specs.Inner.{times}
use Rattle.whole.proofs.Lists.{length_tabulate, get_d_tabulate}
use Rattle.whole.proofs.Parts.{eq_parts, mul_P, mul_N, quot_P, quot_N}
use Rattle.answers.specs.Bad.{bad_depth, any_beyond}
use Rattle.answers.specs.Limits.{WHT_LIMIT, codeable}
use Rattle.answers.proofs.Numbers.{pass, rest}
use Rattle.answers.proofs.Passed.{by_depth, none_within}
use Rattle.quant.specs.Places.{quantizer_at, dequant_all}
use Rattle.quant.specs.Token.{dequant}
use Rattle.quant.specs.declared.AcQuant.{AcQuant}
use Rattle.quant.specs.declared.DcQuant.{DcQuant}
use Rattle.steps.specs.Inner.{FourWithin}
use Rattle.blocks.specs.Block.{line, row, column, rows, columns, rows_then_columns}
use Rattle.blocks.specs.Inner.{change_line, FirstWithin}
use Rattle.blocks.proofs.Lines.{line_length, line_at, line_past, line_same}
use Rattle.blocks.proofs.Blocks.{rows_length, rows_at, row_to_come, columns_length, columns_at, column_to_come}
use Rattle.blocks.proofs.Places.{le_or_lt}
use Rattle.wht.specs.Wht.{wht}
use Rattle.wht.proofs.Wht.{wht_stays, wht_again, wht_fours}
use Rattle.wht.proofs.Ranges.{wht_grows}
use Rattle.fwd_transform.specs.ForwardWht.{forward_wht, wht_answer}

-- a place of the block is in one row and one column
place : (Q : ℕ → Type 0) → ((i j : ℕ) → i < 4 → j < 4 → Q (i * 4 + j)) → (k : ℕ) → k < 16 → Q k
place Q f k h =
    let e : k / 4 * 4 + k % 4 ≡ k = omega arith in
    rw e at (f (k / 4) (k % 4) (omega arith) (omega arith))

-- a line that has been written as the WHT of another is that WHT: the first four numbers, and zeros after them
written : (start step : ℕ) (s t : List ℤ) → length t ≡ 32 → ((k : ℕ) → 4 ≤ k → get_or t k (pos 0) ≡ pos 0)
    → ((k : ℕ) → k < 4 → get_or s (start + k * step) (pos 0) ≡ get_or (wht 0 t) k (pos 0)) → line start step 4 s ≡ wht 0 t
written start step s t l z e =
    ext_get_or (pos 0) (line start step 4 s) (wht 0 t) (line_length start step 4 s ∙ sym l ∙ sym (wht_stays 0 t).long)
    (λ k _. ⊎_elim
    (λ (q : 4 ≤ k). line_past start step 4 s k q ∙ sym (z k q) ∙ sym ((wht_stays 0 t).same k q))
    (λ (q : k < 4). line_at start step 4 s k (omega arith) q ∙ e k q)
    (le_or_lt 4 k))

module _ (s : List ℤ) (room : 16 ≤ length s) where
  row_after_lem : (i : ℕ) → i < 4 → row 4 i (rows (wht 0) 4 s) ≡ wht 0 (row 4 i s)
  row_after_lem i h =
      written (i * 4) 1 (rows (wht 0) 4 s) (row 4 i s) (line_length (i * 4) 1 4 s) (line_past (i * 4) 1 4 s)
      (λ k l. let e : i * 4 + k * 1 ≡ i * 4 + k = omega arith in rw e (rows_at (wht 0) 4 s room i k h l))

  column_after : (j : ℕ) → j < 4 → column 4 j (columns (wht 0) (λ z. z) 4 s) ≡ wht 0 (column 4 j s)
  column_after j h =
      written j 4 (columns (wht 0) (λ z. z) 4 s) (column 4 j s) (line_length j 4 4 s) (line_past j 4 4 s)
      (λ k l. let e : j + k * 4 ≡ k * 4 + j = omega arith in rw e (columns_at (wht 0) (λ z. z) 4 s room k j l h))

-- ---- the lossless inverse: rows at shift 2, columns at shift 0, over four times the tokens
module _ (s u : List ℤ) (room : 16 ≤ length s) (wide : 16 ≤ length u) (fours : (k : ℕ) → k < 16 → get_or u k (pos 0) ≡ pos 4 *ℤ get_or (forward_wht s) k (pos 0)) where
  -- the block between the two forward passes
  middle : List ℤ
  middle = columns (wht 0) (λ z. z) 4 s

  middle_room : 16 ≤ length middle
  unfolding middle
  middle_room = rw (columns_length (wht 0) (λ z. z) 4 s) room

  -- the inverse's rows give it back
  rows_back : (i j : ℕ) → i < 4 → j < 4 → get_or (rows (wht 2) 4 u) (i * 4 + j) (pos 0) ≡ get_or middle (i * 4 + j) (pos 0)
  unfolding forward_wht middle
  rows_back i j hi hj =
      let t = row 4 i (forward_wht s) in
      let m = row 4 i middle in
      let four : (k : ℕ) → k < 4 → get_or (row 4 i u) k (pos 0) ≡ pos 4 *ℤ get_or t k (pos 0) =
      λ k l. line_at (i * 4) 1 4 u k (omega arith) l ∙ fours (i * 4 + k * 1) (omega arith) ∙ ap (λ (z : ℤ). pos 4 *ℤ z) (sym (line_at (i * 4) 1 4 (forward_wht s) k (omega arith) l)) in
      let e : i * 4 + j * 1 ≡ i * 4 + j = omega arith in
      rows_at (wht 2) 4 u wide i j hi hj
      ∙ wht_fours t (row 4 i u) (omega (arith, line_length (i * 4) 1 4 (forward_wht s))) (omega (arith, line_length (i * 4) 1 4 u)) four j hj
      ∙ ap (λ (l : List ℤ). get_or (wht 0 l) j (pos 0)) (row_after_lem middle middle_room i hi)
      ∙ ap (λ (l : List ℤ). get_or l j (pos 0)) (wht_again m (omega (arith, line_length (i * 4) 1 4 middle)))
      ∙ line_at (i * 4) 1 4 middle j (omega arith) hj ∙ ap (λ (p : ℕ). get_or middle p (pos 0)) e

  -- and its columns the block
  undone : (i j : ℕ) → i < 4 → j < 4 → get_or (rows_then_columns (wht 2) (wht 0) (λ z. z) 4 u) (i * 4 + j) (pos 0) ≡ get_or s (i * 4 + j) (pos 0)
  unfolding rows_then_columns middle
  undone i j hi hj =
      let r = rows (wht 2) 4 u in
      let c : column 4 j r ≡ column 4 j middle = line_same j 4 4 r middle (λ k l. let e : j + k * 4 ≡ k * 4 + j = omega arith in rw e (rows_back k j l hj)) in
      let e : j + i * 4 ≡ i * 4 + j = omega arith in
      columns_at (wht 0) (λ z. z) 4 r (rw (rows_length (wht 2) 4 u) wide) i j hi hj
      ∙ ap (λ (l : List ℤ). get_or (wht 0 l) i (pos 0)) (c ∙ column_after s room j hj)
      ∙ ap (λ (l : List ℤ). get_or l i (pos 0)) (wht_again (column 4 j s) (omega (arith, line_length j 4 4 s)))
      ∙ line_at j 4 4 s i (omega arith) hi ∙ ap (λ (p : ℕ). get_or s p (pos 0)) e

  -- THE FORWARD WHT UNDONE: number by number, of a list that may be longer than the block
  pub lossless_at_lem : (k : ℕ) → k < 16 → get_or (rows_then_columns (wht 2) (wht 0) (λ z. z) 4 u) k (pos 0) ≡ get_or s k (pos 0)
  lossless_at_lem = place (λ k. get_or (rows_then_columns (wht 2) (wht 0) (λ z. z) 4 u) k (pos 0) ≡ get_or s k (pos 0)) undone

pub forward_length : (s : List ℤ) → length (forward_wht s) ≡ length s
unfolding forward_wht
forward_length s = rows_length (wht 0) 4 (columns (wht 0) (λ z. z) 4 s) ∙ columns_length (wht 0) (λ z. z) 4 s

-- a block of 16, whole: its tokens dequantized by 4, the lossless quantizer, and inversely transformed
times_four : (t : ℤ) → dequant 0 (pos 4) t ≡ pos 4 *ℤ t
unfolding dequant
times_four t = eq_parts (quot_z (t *ℤ pos 4) (pos 1)) (pos 4 *ℤ t)
    (omega (arith, quot_P (t *ℤ pos 4) 1, quot_N (t *ℤ pos 4) 1, mul_P t (pos 4), mul_N t (pos 4), mul_P (pos 4) t, mul_N (pos 4) t))

pub by_four : (dc : DcQuant) (ac : AcQuant) → dc.0 ≡ pos 4 → ac.0 ≡ pos 4 → (k : ℕ) → quantizer_at dc ac k ≡ pos 4
unfolding quantizer_at
by_four dc ac d a k = go (eqb k 0) refl
  where
    go : (b : Bool) → eqb k 0 ≡ b → quantizer_at dc ac k ≡ pos 4
    go true e = rw e d
    go false e = rw e a

pub lossless : (dc : DcQuant) (ac : AcQuant) (s : List ℤ) → dc.0 ≡ pos 4 → ac.0 ≡ pos 4 → length s ≡ 16
    → rows_then_columns (wht 2) (wht 0) (λ z. z) 4 (dequant_all 0 dc ac (forward_wht s)) ≡ s
unfolding rows_then_columns dequant_all
lossless dc ac s d a h =
    let f = forward_wht s in
    let n = forward_length s in
    let u = dequant_all 0 dc ac f in
    let l : length u ≡ length f = length_tabulate _ (length f) in
    let m : length (rows_then_columns (wht 2) (wht 0) (λ z. z) 4 u) ≡ length u = columns_length (wht 0) (λ z. z) 4 (rows (wht 2) 4 u) ∙ rows_length (wht 2) 4 u in
    ext_get_or (pos 0) (rows_then_columns (wht 2) (wht 0) (λ z. z) 4 u) s (m ∙ l ∙ n)
    (λ k q. lossless_at_lem s u (omega arith) (omega arith)
    (λ j p. get_d_tabulate _ (length f) j (pos 0) (omega arith) ∙ rw (by_four dc ac d a j) (times_four (get_or f j (pos 0)))) k (omega arith))

-- ---- ranges: each pass at most doubles
four_within : (m start step : ℕ) (s : List ℤ) → ((k : ℕ) → k < 4 → Within m (get_or s (start + k * step) (pos 0))) → EachWithin (replicate 4 m) (line start step 4 s)
four_within m start step s h = record { each = λ k l. rw (get_or-replicate 4 k m 0 l, line_at start step 4 s k (omega arith) l) (h k l) }

of_four : (m : ℕ) (t : List ℤ) → EachWithin (replicate 4 m) t → (k : ℕ) → k < 4 → Within m (get_or t k (pos 0))
of_four m t h k l = rw (get_or-replicate 4 k m 0 l) at (h.each k l)

module _ (m : ℕ) (s : List ℤ) (room : 16 ≤ length s) (h : FirstWithin m 16 s) where
  -- what a line asks of the machine
  pub column_within : (j : ℕ) → j < 4 → EachWithin (replicate 4 m) (column 4 j s)
  column_within j hj = four_within m j 4 s (λ k l. h.each (j + k * 4) (omega arith))

  pub row_within : (i : ℕ) → i < 4 → EachWithin (replicate 4 m) (row 4 i s)
  row_within i hi = four_within m (i * 4) 1 s (λ k l. h.each (i * 4 + k * 1) (omega arith))

  pub columns_within : FirstWithin (2 * m) 16 (columns (wht 0) (λ z. z) 4 s)
  columns_within = record {
    each = place (λ k. Within (2 * m) (get_or (columns (wht 0) (λ z. z) 4 s) k (pos 0)))
        (λ i j hi hj. rw (columns_at (wht 0) (λ z. z) 4 s room i j hi hj) (of_four (2 * m) (wht 0 (column 4 j s)) (wht_grows (column_within j hj)) i hi));
  }

  pub rows_within : FirstWithin (2 * m) 16 (rows (wht 0) 4 s)
  rows_within = record {
    each = place (λ k. Within (2 * m) (get_or (rows (wht 0) 4 s) k (pos 0)))
        (λ i j hi hj. rw (rows_at (wht 0) 4 s room i j hi hj) (of_four (2 * m) (wht 0 (row 4 i s)) (wht_grows (row_within i hi)) j hj));
  }

pub forward_within : (m : ℕ) (s : List ℤ) → 16 ≤ length s → FirstWithin m 16 s → FirstWithin (2 * (2 * m)) 16 (forward_wht s)
unfolding forward_wht
forward_within m s room h =
    let c = columns (wht 0) (λ z. z) 4 s in
    let r : 16 ≤ length c = omega (arith, columns_length (wht 0) (λ z. z) 4 s) in
    rows_within (2 * m) c r (columns_within m s room h)

-- THE TOKENS ARE CODEABLE: of differences within the largest sample, at each depth
enough : (depth : ℕ) → bad_depth depth ≡ false → 2 * (2 * (2 ^ depth - 1)) ≤ codeable depth
enough = by_depth (λ depth. 2 * (2 * (2 ^ depth - 1)) ≤ codeable depth) (omega arith) (omega arith) (omega arith)

pub forward_codeable : (depth : ℕ) (s : List ℤ) → bad_depth depth ≡ false → 16 ≤ length s → FirstWithin (2 ^ depth - 1) 16 s
    → (k : ℕ) → k < 16 → nat_abs (get_or (forward_wht s) k (pos 0)) ≤ codeable depth
forward_codeable depth s b room h k l =
    NatL.le_trans (abs_bd ((forward_within (2 ^ depth - 1) s room h).each k l)) (enough depth b)

-- ---- as the code goes, line by line
four_fine : (m : ℕ) (t : List ℤ) → m ≤ 2 ^ 46 → EachWithin (replicate 4 m) t → FourWithin (2 ^ 46) t
four_fine m t p h =
    let w : (k : ℕ) → k < 4 → Within (2 ^ 46) (get_or t k (pos 0)) = λ k l. within_le p (of_four m t h k l) in
    (w 0 (omega arith), w 1 (omega arith), w 2 (omega arith), w 3 (omega arith))

module _ (m : ℕ) (s : List ℤ) (p : m ≤ 2 ^ 46) (room : 16 ≤ length s) (h : FirstWithin m 16 s) where
  pub column_fine : (j : ℕ) (u : List ℤ) → j < 4 → u ≡ times j (λ j. change_line (wht 0) (λ z. z) j 4 4) s → FourWithin (2 ^ 46) (column 4 j u)
  column_fine j u l e = rw (e, column_to_come (wht 0) (λ z. z) 4 s j l) (four_fine m (column 4 j s) p (column_within m s room h j l))

  pub row_fine : (i : ℕ) (u : List ℤ) → i < 4 → u ≡ times i (λ i. change_line (wht 0) (λ z. z) (i * 4) 1 4) s → FourWithin (2 ^ 46) (row 4 i u)
  row_fine i u l e = rw (e, row_to_come (wht 0) 4 s i l) (four_fine m (row 4 i s) p (row_within m s room h i l))

-- ---- the call
module _ (block : List ℤ) where
  pub refused : (wht_answer block ≡ 0 → ⊥) → block ≡ cond (eqb (wht_answer block) 0) (forward_wht block) block
  refused h = rw (ne_eqb (wht_answer block) 0 h)

  pub done : wht_answer block ≡ 0 → forward_wht block ≡ cond (eqb (wht_answer block) 0) (forward_wht block) block
  done h = rw (eq-eqb (wht_answer block) 0 h)

  -- what answer 0 says of the block
  pub sixteen : wht_answer block ≡ 0 → length block ≡ 16
  unfolding wht_answer
  sixteen h = eqb-true (length block) 16 (not-false (eqb (length block) 16) (pass (not (eqb (length block) 16)) 5 _ h))

  pub in_range : wht_answer block ≡ 0 → FirstWithin WHT_LIMIT 16 block
  unfolding wht_answer
  in_range h =
      let n = length block in
      let l = sixteen h in
      record { each = λ k q. none_within WHT_LIMIT n block (pass (any_beyond WHT_LIMIT n block) 8 _ (rest (not (eqb n 16)) 5 _ h)) k (omega arith) }
