-- The work against the block: it begins with the block's numbers, so the condition and the residual are the block's own.
use mathlib.Core.Path.{◌≡◌, sym, ap, ap₂, ◌∙◌}
use mathlib.Core.Bool.{Bool, true, false, ◌&&◌}
use mathlib.Core.List.{List, [], ◌∷◌}
use Prim.Native.Nat.{ℕ, ◌+◌, ◌*◌, ◌≤◌, ◌<◌}
use native.Mathlib.Nat.{mul-one, le_refl, mul-le-mul}
use native.Mathlib.Omega.{arith}
use lib.Arith.{digits_lt}
use lib.IntN.{ℤ, pos, nat_abs}
use lib.ListN.{length, get_or, replicate, length-replicate}
use mir.Syntax.{w16}
use mir.Val.{SFits}
use Rattle.whole.specs.Lists.{fill}
use Rattle.whole.proofs.Parts.{abs_parts}
use Rattle.whole.proofs.Within.{sfits_P, sfits_N}
use Rattle.answers.specs.Bad.{any_beyond}
use Rattle.answers.specs.Limits.{COEF_LIMIT}
use Rattle.answers.specs.Sizes.{side, area}
use Rattle.answers.proofs.Passed.{all_within}
use Rattle.steps.specs.Step2.{fresh}
use Rattle.narrow.specs.Kept.{short, shorts, always, kept, kept2}
use Rattle.narrow.proofs.Short.{short_fits}
use Rattle.blocks.specs.Block.{line, row, column, rows, columns, rows_then_columns}
use Rattle.blocks.specs.Inverse.{Pass, Dct, Adst, Wht, apply, row_pass, column_pass, rounding, inverse2d}
use Rattle.blocks.proofs.Places.{in_row, in_column, by_place}
use Rattle.blocks.proofs.Lines.{fill_length, fill_past, fill_at, line_same, line_at}
use Rattle.blocks.proofs.Inverse.{side_most}
use Rattle.blocks.proofs.Blocks.{block_ext, rows_length, rows_at, rows_past, columns_length, columns_at, columns_past}
use Rattle.weights.specs.Line.{kept_line}
use Rattle.idct32.specs.Engine.{kept_rows, kept_columns, within16}
use Rattle.idct32.proofs.Scan.{and_left, fails, every_at, every_same, shorts_all, shorts_at}

-- ---- a line of numbers of 16 bits
pub line_short : (start step n0 : ℕ) (s : List ℤ) → n0 ≤ 32 → ((k : ℕ) → k < n0 → short (get_or s (start + k * step) (pos 0)) ≡ true) → shorts n0 (line start step n0 s) ≡ true
line_short start step n0 s h f = shorts_all n0 (line start step n0 s) (λ k l. rw (line_at start step n0 s k h l) (f k l))

-- the sizes that there are
pub area_most : (n : ℕ) → 2 ≤ n → n ≤ 5 → area n ≤ 1024
area_most n l h = mul-le-mul (side_most n l h) (side_most n l h)

-- ---- the first state of a line is the line as it is loaded
always_first : {A S : Type 0} (step : A → S → S) (good : S → Bool) (ss : List A) (t : S) → always step good ss t ≡ true → good t ≡ true
unfolding always
always_first step good [] t h = h
always_first step good (s ∷ ss) t h = and_left (good t) (always step good ss (step s t)) h

loaded : (p : Pass) (n : ℕ) (t : List ℤ) → kept_line p n t ≡ true → shorts (side n) t ≡ true
unfolding kept kept2 fresh
loaded Dct n t h = always_first _ _ _ _ h
loaded Adst n t h = always_first _ _ _ _ h
loaded (Wht shift) n t h = always_first _ _ _ _ h

-- where every row passes, every number at entry is of 16 bits
entered : (p : Pass) (n : ℕ) (s : List ℤ) → side n ≤ 32 → kept_rows p n s ≡ true → shorts (area n) s ≡ true
unfolding kept_rows
entered p n s h e =
    shorts_all (area n) s (by_place (side n) (λ q. short (get_or s q (pos 0)) ≡ true) (λ i j hi hj.
    let a = loaded p n (row (side n) i s) (every_at (λ i. kept_line p n (row (side n) i s)) (side n) i e hi) in
    let b = shorts_at (side n) (row (side n) i s) j a hj in
    rw (line_at (i * side n) 1 (side n) s j h hj, mul-one j) at b))

-- so a number that is not fails the condition
pub not_entered : (n tx_type : ℕ) (lossless : Bool) (s : List ℤ) → side n ≤ 32 → shorts (area n) s ≡ false → within16 n tx_type lossless s ≡ false
unfolding within16
not_entered n tx_type lossless s h e =
    fails (within16 n tx_type lossless s) (λ q.
    let a = entered (row_pass tx_type lossless) n s h (and_left _ _ q) in
    cc)

-- and numbers that are of 16 bits are within the limit
short_abs : (z : ℤ) → short z ≡ true → nat_abs z ≤ COEF_LIMIT
short_abs z e = let f : SFits w16 z = short_fits e in omega (arith, sfits_P f, sfits_N f, abs_parts z)

pub short_under : (n : ℕ) (s : List ℤ) → shorts n s ≡ true → any_beyond COEF_LIMIT n s ≡ false
short_under n s e = all_within COEF_LIMIT n s (λ k l. short_abs (get_or s k (pos 0)) (shorts_at n s k e l))

-- ---- two lists that agree in the block
module _ (n0 : ℕ) (s w : List ℤ) (agree : (p : ℕ) → p < n0 * n0 → get_or w p (pos 0) ≡ get_or s p (pos 0)) where
  row_same : (i : ℕ) → i < n0 → row n0 i w ≡ row n0 i s
  row_same i hi = line_same (i * n0) 1 n0 w s (λ k hk. agree (i * n0 + k * 1) (in_row n0 i k (n0 * n0) hi hk (le_refl (n0 * n0))))

  column_same : (j : ℕ) → j < n0 → column n0 j w ≡ column n0 j s
  column_same j hj = line_same j n0 n0 w s (λ k hk. agree (j + k * n0) (in_column n0 j k (n0 * n0) hj hk (le_refl (n0 * n0))))

  -- so do their rows through T
  rows_agree : (T : List ℤ → List ℤ) → n0 * n0 ≤ length s → n0 * n0 ≤ length w → (p : ℕ) → p < n0 * n0 → get_or (rows T n0 w) p (pos 0) ≡ get_or (rows T n0 s) p (pos 0)
  rows_agree T room more =
      by_place n0 (λ p. get_or (rows T n0 w) p (pos 0) ≡ get_or (rows T n0 s) p (pos 0)) (λ i j hi hj.
      rows_at T n0 w more i j hi hj ∙ ap (λ (t : List ℤ). get_or (T t) j (pos 0)) (row_same i hi) ∙ sym (rows_at T n0 s room i j hi hj))

-- ---- the whole: w begins with the block's numbers
module _ (n tx_type : ℕ) (lossless : Bool) (s w : List ℤ) (room : area n ≤ length s) (more : area n ≤ length w)
    (agree : (p : ℕ) → p < area n → get_or w p (pos 0) ≡ get_or s p (pos 0)) where
  -- the condition, from its two parts
  rows_are : kept_rows (row_pass tx_type lossless) n w ≡ kept_rows (row_pass tx_type lossless) n s
  unfolding kept_rows
  rows_are = every_same _ _ (side n) (λ i hi. ap (kept_line (row_pass tx_type lossless) n) (row_same (side n) s w agree i hi))

  columns_are : kept_columns (column_pass tx_type lossless) n (rows (apply (row_pass tx_type lossless) n) (side n) w)
      ≡ kept_columns (column_pass tx_type lossless) n (rows (apply (row_pass tx_type lossless) n) (side n) s)
  unfolding kept_columns
  columns_are =
      let T = apply (row_pass tx_type lossless) n in
      every_same _ _ (side n)
      (λ j hj. ap (kept_line (column_pass tx_type lossless) n) (column_same (side n) (rows T (side n) s) (rows T (side n) w) (rows_agree (side n) s w agree T room more) j hj))

  pub within_are : within16 n tx_type lossless w ≡ within16 n tx_type lossless s
  unfolding within16
  within_are = ap₂ ◌&&◌ rows_are columns_are

  -- the residual: the columns of the work, rounded into the block
  pub residual : {v : List ℤ} → v ≡ columns (apply (column_pass tx_type lossless) n) (λ z. z) (side n) (rows (apply (row_pass tx_type lossless) n) (side n) w)
      → fill (area n) (λ k. rounding n lossless (get_or v k (pos 0))) s ≡ inverse2d n tx_type lossless s
  unfolding inverse2d rows_then_columns
  residual {v} e =
      let n0 = side n in
      let T = apply (row_pass tx_type lossless) n in
      let U = apply (column_pass tx_type lossless) n in
      let r = rounding n lossless in
      let g : ℕ → ℤ = λ k. r (get_or v k (pos 0)) in
      block_ext n0 (fill (area n) g s) (columns U r n0 (rows T n0 s))
      (fill_length (area n) g s ∙ sym (columns_length U r n0 (rows T n0 s) ∙ rows_length T n0 s))
      (λ i j hi hj.
      fill_at (area n) g s (i * n0 + j) room (digits_lt hi hj)
      ∙ ap r (ap (λ (x : List ℤ). get_or x (i * n0 + j) (pos 0)) e ∙ columns_at U (λ z. z) n0 (rows T n0 w) (rw (rows_length T n0 w) more) i j hi hj
      ∙ ap (λ (t : List ℤ). get_or (U t) i (pos 0)) (column_same n0 (rows T n0 s) (rows T n0 w) (rows_agree n0 s w agree T room more) j hj))
      ∙ sym (columns_at U r n0 (rows T n0 s) (rw (rows_length T n0 s) room) i j hi hj))
      (λ p h. fill_past (area n) g s p h ∙ sym (columns_past U r n0 (rows T n0 s) p h ∙ rows_past T n0 s p h))

-- ---- the work as it is taken
pub taken : (n : ℕ) (s w : List ℤ) → area n ≤ 1024 → w ≡ fill (area n) (λ k. get_or s k (pos 0)) (replicate 1024 (pos 0))
    → (length w ≡ 1024) × ((p : ℕ) → p < area n → get_or w p (pos 0) ≡ get_or s p (pos 0))
taken n s w h e = (
  ap length e ∙ fill_length (area n) (λ k. get_or s k (pos 0)) (replicate 1024 (pos 0)) ∙ length-replicate 1024 (pos 0),
  λ p l. ap (λ (x : List ℤ). get_or x p (pos 0)) e ∙ fill_at (area n) (λ k. get_or s k (pos 0)) (replicate 1024 (pos 0)) p (rw (length-replicate 1024 (pos 0)) h) l,
)
