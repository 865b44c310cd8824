-- A block by rows: nothing written, one row more, and the whole plane from its rows.
use mathlib.Core.Path.{◌≡◌, refl, sym, ap, ◌∙◌}
use mathlib.Core.Bool.{Bool, true, false, ◌&&◌}
use mathlib.Core.List.{List}
use Prim.Native.Nat.{ℕ, ◌+◌, ◌-◌, ◌*◌, ◌<◌, ◌≤◌}
use native.Mathlib.Decide.{dec_lt, ℕ_discrete}
use native.Mathlib.Nat as NatL
use native.Mathlib.Omega.{arith}
use lib.Arith.{digits_div, digits_mod}
use lib.IntN.{ℤ, pos, ◌+ℤ◌}
use lib.ListN.{length, get_or}
use Rattle.whole.proofs.Lists.{length_tabulate, get_d_tabulate, tabulate_is, tabulate_same}
use Rattle.plane.specs.declared.Plane.{Plane}
use Rattle.plane.specs.Place.{place_of, row_of, column_of, cut, SamplesOf}
use Rattle.plane.specs.Plane.{clip, inside, sample_after, plane_after}
use Rattle.plane.specs.Inner.{row_after}
use Rattle.plane.proofs.Row.{inside_yes, inside_low, inside_high, inside_is, row_in, row_out}

and_false : (b : Bool) → b && false ≡ false
and_false true = refl
and_false false = refl

module _ (top : ℕ) (r : ℕ → ℕ → ℤ) (x y : ℕ) (samples : List ℕ) where
  -- outside the rows or the columns a sample stays
  pub off_rows : (rows cols row column k : ℕ) → inside y rows row ≡ false → sample_after top r x y rows cols samples row column k ≡ get_or samples k 0
  unfolding sample_after
  off_rows rows cols row column k h = rw h

  pub off_columns : (rows cols row column k : ℕ) → inside x cols column ≡ false
      → sample_after top r x y rows cols samples row column k ≡ get_or samples k 0
  unfolding sample_after
  off_columns rows cols row column k h = rw (h, and_false (inside y rows row))

  pub on_block : (rows cols row column k : ℕ) → inside y rows row ≡ true → inside x cols column ≡ true
      → sample_after top r x y rows cols samples row column k ≡ clip top (pos (get_or samples k 0) +ℤ r (row - y) (column - x))
  unfolding sample_after
  on_block rows cols row column k h l = rw (h, l)

  pub block_none : (cols row column k : ℕ) → get_or samples k 0 ≡ sample_after top r x y 0 cols samples row column k
  block_none cols row column k = sym (off_rows 0 cols row column k (go (dec_lt row y)))
    where
      go : Dec (row < y) → inside y 0 row ≡ false
      go (yes h) = inside_low y 0 row h
      go (no h) = inside_high y 0 row (omega arith)

  -- a row more changes no other row
  other_row : (i cols row column k : ℕ) → (row ≡ y + i → ⊥)
      → sample_after top r x y i cols samples row column k ≡ sample_after top r x y (i + 1) cols samples row column k
  unfolding sample_after
  other_row i cols row column k ne = rw (same (dec_lt row y) (dec_lt row (y + i)))
    where
      same : Dec (row < y) → Dec (row < y + i) → inside y i row ≡ inside y (i + 1) row
      same (yes h) d = inside_low y i row h ∙ sym (inside_low y (i + 1) row h)
      same (no h) (yes l) = inside_yes y i row (omega arith) l ∙ sym (inside_yes y (i + 1) row (omega arith) (omega arith))
      same (no h) (no l) = inside_high y i row (omega arith) ∙ sym (inside_high y (i + 1) row (omega arith))

  module _ (p : Plane) (cols i : ℕ) (fit : x + cols ≤ p.stride) (cur next : List ℕ)
      (had : (row column : ℕ) → column < p.stride → get_or cur (place_of p row column) 0 ≡ sample_after top r x y i cols samples row column (place_of p row column))
      (new : (k : ℕ) → get_or next k 0 ≡ row_after top (r i) (place_of p (y + i) x) cols cur k) where
    -- the row that is written
    here : (column : ℕ) → column < p.stride
        → get_or next (place_of p (y + i) column) 0 ≡ sample_after top r x y (i + 1) cols samples (y + i) column (place_of p (y + i) column)
    here column l = go (dec_lt column x) (dec_lt column (x + cols))
      where
        old : get_or cur (place_of p (y + i) column) 0 ≡ get_or samples (place_of p (y + i) column) 0
        old = had (y + i) column l ∙ off_rows i cols (y + i) column (place_of p (y + i) column) (inside_high y i (y + i) (omega arith))

        go : Dec (column < x) → Dec (column < x + cols)
            → get_or next (place_of p (y + i) column) 0 ≡ sample_after top r x y (i + 1) cols samples (y + i) column (place_of p (y + i) column)
        go (yes h) d =
            new (place_of p (y + i) column)
            ∙ row_out top (r i) (place_of p (y + i) x) cur cols (place_of p (y + i) column) (inside_low (place_of p (y + i) x) cols (place_of p (y + i) column) (omega arith))
            ∙ old ∙ sym (off_columns (i + 1) cols (y + i) column (place_of p (y + i) column) (inside_low x cols column h))
        go (no h) (no q) =
            new (place_of p (y + i) column)
            ∙ row_out top (r i) (place_of p (y + i) x) cur cols (place_of p (y + i) column) (inside_high (place_of p (y + i) x) cols (place_of p (y + i) column) (omega arith))
            ∙ old ∙ sym (off_columns (i + 1) cols (y + i) column (place_of p (y + i) column) (inside_high x cols column (omega arith)))
        go (no h) (yes q) =
            let e : place_of p (y + i) column - place_of p (y + i) x ≡ column - x = omega arith in
            let f : y + i - y ≡ i = omega arith in
            new (place_of p (y + i) column)
            ∙ row_in top (r i) (place_of p (y + i) x) cur cols (place_of p (y + i) column)
            (inside_yes (place_of p (y + i) x) cols (place_of p (y + i) column) (omega arith) (omega arith))
            ∙ rw (old, e)
            (sym
            (on_block (i + 1) cols (y + i) column (place_of p (y + i) column) (inside_yes y (i + 1) (y + i) (omega arith) (omega arith)) (inside_yes x cols column (omega arith) q)
            ∙ rw f refl))

    pub block_more : (row column : ℕ) → column < p.stride
        → get_or next (place_of p row column) 0 ≡ sample_after top r x y (i + 1) cols samples row column (place_of p row column)
    block_more row column l = go (ℕ_discrete row (y + i)) (dec_lt row (y + i))
      where
        go : Dec (row ≡ y + i) → Dec (row < y + i)
            → get_or next (place_of p row column) 0 ≡ sample_after top r x y (i + 1) cols samples row column (place_of p row column)
        go (yes e) d = rw e (here column l)
        go (no ne) (yes h) =
            let m : (row + 1) * p.stride ≤ (y + i) * p.stride = NatL.mul-le-mul_right p.stride (omega arith) in
            new (place_of p row column)
            ∙ row_out top (r i) (place_of p (y + i) x) cur cols (place_of p row column)
            (inside_low (place_of p (y + i) x) cols (place_of p row column) (omega (arith, NatL.add-mul row 1 p.stride)))
            ∙ had row column l ∙ other_row i cols row column (place_of p row column) ne
        go (no ne) (no h) =
            let m : (y + i + 1) * p.stride ≤ row * p.stride = NatL.mul-le-mul_right p.stride (omega arith) in
            new (place_of p row column)
            ∙ row_out top (r i) (place_of p (y + i) x) cur cols (place_of p row column)
            (inside_high (place_of p (y + i) x) cols (place_of p row column) (omega (arith, NatL.add-mul (y + i) 1 p.stride)))
            ∙ had row column l ∙ other_row i cols row column (place_of p row column) ne

-- the samples afterwards: how many, and the one at place k
module _ (p : Plane) (top x y n0 : ℕ) (r : ℕ → ℕ → ℤ) (samples : List ℕ) where
  pub after_length : length (plane_after p top x y n0 r samples) ≡ length samples
  unfolding plane_after
  after_length = length_tabulate _ (length samples)

  pub after_at : (k : ℕ) → k < length samples
      → get_or (plane_after p top x y n0 r samples) k 0
      ≡ sample_after top r x y (cut p.height y n0) (cut p.width x n0) samples (row_of p k) (column_of p k) k
  unfolding plane_after
  after_at k h = get_d_tabulate _ (length samples) k 0 h

-- the row and the column of a place that was made of them
pub row_of_lem : (p : Plane) (row : ℕ) {column : ℕ} → column < p.stride → row_of p (place_of p row column) ≡ row
row_of_lem p row h = digits_div row h

pub column_of_lem : (p : Plane) (row : ℕ) {column : ℕ} → column < p.stride → column_of p (place_of p row column) ≡ column
column_of_lem p row h = digits_mod row h

-- residuals that agree in the rows and columns
block_same : (top : ℕ) (r q : ℕ → ℕ → ℤ) (x y : ℕ) (samples : List ℕ) (rows cols row column k : ℕ) → ((i j : ℕ) → i < rows → j < cols → r i j ≡ q i j)
    → sample_after top r x y rows cols samples row column k ≡ sample_after top q x y rows cols samples row column k
block_same top r q x y samples rows cols row column k e = go (inside y rows row) (inside x cols column) refl refl
  where
    go : (a b : Bool) → inside y rows row ≡ a → inside x cols column ≡ b
        → sample_after top r x y rows cols samples row column k ≡ sample_after top q x y rows cols samples row column k
    go false b h l = off_rows top r x y samples rows cols row column k h ∙ sym (off_rows top q x y samples rows cols row column k h)
    go true false h l = off_columns top r x y samples rows cols row column k l ∙ sym (off_columns top q x y samples rows cols row column k l)
    go true true h l =
        let a = inside_is y rows row h in
        let b = inside_is x cols column l in
        on_block top r x y samples rows cols row column k h l
        ∙ ap (λ (z : ℤ). clip top (pos (get_or samples k 0) +ℤ z)) (e (row - y) (column - x) (omega arith) (omega arith))
        ∙ sym (on_block top q x y samples rows cols row column k h l)

module _ (p : Plane) (samples : List ℕ) (s : SamplesOf p samples) where
  -- a place of the plane has a column, and a row, of the plane
  pub some_column : (k : ℕ) → k < length samples → 0 < p.stride
  some_column k l = go (dec_lt 0 p.stride)
    where
      go : Dec (0 < p.stride) → 0 < p.stride
      go (yes h) = h
      go (no h) =
          let e : p.stride ≡ 0 = omega arith in absurd (let z : k < 0 * p.height = rw e at (rw s.all at l) in omega arith)

  pub column_in : (k : ℕ) → k < length samples → column_of p k < p.stride
  column_in k l = NatL.mod-lt k (some_column k l)

  pub row_in_plane : (k : ℕ) → k < length samples → row_of p k < p.height
  row_in_plane k l =
      (NatL.div-lt_iff_lt-mul {k = p.stride} {x = k} {y = p.height} (some_column k l)).1 (omega (arith, NatL.mul_comm p.stride p.height, s.all))

  pub place_of_lem : (k : ℕ) → place_of p (row_of p k) (column_of p k) ≡ k
  place_of_lem k = NatL.div-add-mod' k p.stride

  module _ (top x y n0 : ℕ) (r : ℕ → ℕ → ℤ) where
    -- no column of the block in the plane
    pub no_column : cut p.width x n0 ≡ 0 → samples ≡ plane_after p top x y n0 r samples
    unfolding plane_after
    no_column e =
        tabulate_is 0 _ samples (length samples) refl
        (λ k l. sym (off_columns top r x y samples (cut p.height y n0) (cut p.width x n0) (row_of p k) (column_of p k) k (go k (dec_lt (column_of p k) x))))
      where
        go : (k : ℕ) → Dec (column_of p k < x) → inside x (cut p.width x n0) (column_of p k) ≡ false
        go k (yes h) = inside_low x (cut p.width x n0) (column_of p k) h
        go k (no h) = inside_high x (cut p.width x n0) (column_of p k) (omega arith)

    -- the plane, from what stands at each row and column
    pub by_rows : (l : List ℕ) → length l ≡ length samples
        → ((row column : ℕ) → column < p.stride
        → get_or l (place_of p row column) 0 ≡ sample_after top r x y (cut p.height y n0) (cut p.width x n0) samples row column (place_of p row column))
        → l ≡ plane_after p top x y n0 r samples
    unfolding plane_after
    by_rows l e had = tabulate_is 0 _ l (length samples) e (λ k q. rw (place_of_lem k) at (had (row_of p k) (column_of p k) (column_in k q)))

    -- no residual counts but those of the block
    pub same_residuals : (q : ℕ → ℕ → ℤ) → ((i j : ℕ) → i < n0 → j < n0 → r i j ≡ q i j) → plane_after p top x y n0 r samples ≡ plane_after p top x y n0 q samples
    unfolding plane_after
    same_residuals q e =
        tabulate_same _ _ (length samples)
        (λ k l. block_same top r q x y samples (cut p.height y n0) (cut p.width x n0) (row_of p k) (column_of p k) k
        (λ i j a b. e i j (omega arith) (omega arith)))
