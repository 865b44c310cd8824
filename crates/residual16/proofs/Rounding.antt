-- The columns rounded in their place are the residual, also where they stand by strips of eight columns.
use Rattle.std.proofs.Common.{◌≡◌, ℕ, ◌+◌, ◌*◌, ◌≤◌, false, List, length, get_or, ℤ, pos, sym, ap, ◌∙◌}
use native.Mathlib.Nat as NatL
use lib.Arith.{digits_lt}
use Rattle.whole.specs.Lists.{fill}
use Rattle.whole.specs.Round.{Round2}
use Rattle.answers.specs.Sizes.{side, area}
use Rattle.narrow.specs.Tile.{place, raster}
use Rattle.narrow.proofs.Tile.{place_lt, raster_length, raster_at, raster_is}
use Rattle.blocks.specs.Block.{rows, columns, rows_then_columns}
use Rattle.blocks.specs.Inverse.{apply, row_pass, column_pass, bits, rounding, inverse2d}
use Rattle.blocks.proofs.Lines.{fill_length, fill_past, fill_at}
use Rattle.blocks.proofs.Blocks.{block_ext, rows_length, columns_length, columns_at, columns_past}

rounded_block : (n tx_type : ℕ) (s v : List ℤ) → area n ≤ length s
    → v ≡ columns (apply (column_pass tx_type false) n) (λ z. z) (side n) (rows (apply (row_pass tx_type false) n) (side n) s)
    → fill (area n) (λ k. Round2 (get_or v k (pos 0)) (bits n)) v ≡ inverse2d n tx_type false s
unfolding inverse2d rows_then_columns rounding
rounded_block n tx_type s v room e =
    let n0 = side n in
    let u = rows (apply (row_pass tx_type false) n) n0 s in
    let U = apply (column_pass tx_type false) n in
    let r : ℤ → ℤ = λ z. Round2 z (bits n) in
    let g : ℕ → ℤ = λ k. r (get_or v k (pos 0)) in
    let more : area n ≤ length u = rw (rows_length (apply (row_pass tx_type false) n) n0 s) room in
    let long : length v ≡ length u = ap length e ∙ columns_length U (λ z. z) n0 u in
    block_ext n0 (fill (area n) g v) (columns U r n0 u)
    (fill_length (area n) g v ∙ long ∙ sym (columns_length U r n0 u))
    (λ i j hi hj.
    fill_at (area n) g v (i * n0 + j) (rw long more) (digits_lt hi hj)
    ∙ ap r (ap (λ (x : List ℤ). get_or x (i * n0 + j) (pos 0)) e ∙ columns_at U (λ z. z) n0 u more i j hi hj)
    ∙ sym (columns_at U r n0 u more i j hi hj))
    (λ p h. fill_past (area n) g v p h ∙ ap (λ (x : List ℤ). get_or x p (pos 0)) e ∙ columns_past U (λ z. z) n0 u p h ∙ sym (columns_past U r n0 u p h))

pub rounded_tiles : (n w tx_type : ℕ) (s z : List ℤ) → side n ≡ w * 8 → area n ≤ length s → area n ≤ length z
    → raster (side n) z ≡ columns (apply (column_pass tx_type false) n) (λ z. z) (side n) (rows (apply (row_pass tx_type false) n) (side n) s)
    → raster (side n) (fill (area n) (λ k. Round2 (get_or z k (pos 0)) (bits n)) z) ≡ inverse2d n tx_type false s
rounded_tiles n w tx_type s z e room wide h =
    let n0 = side n in
    let v = raster n0 z in
    let g : ℕ → ℤ = λ k. Round2 (get_or z k (pos 0)) (bits n) in
    let f : ℕ → ℤ = λ k. Round2 (get_or v k (pos 0)) (bits n) in
    sym (raster_is n0 (fill (area n) g z) (fill (area n) f v) (fill_length (area n) f v ∙ raster_length n0 z)
    (λ i j hi hj.
    fill_at (area n) f v (i * n0 + j) (rw (raster_length n0 z) (NatL.le_refl (area n))) (digits_lt hi hj)
    ∙ ap (λ (x : ℤ). Round2 x (bits n)) (raster_at n0 z i j hi hj)
    ∙ sym (fill_at (area n) g z (place n0 i j) wide (place_lt n0 w i j e hi hj))))
    ∙ rounded_block n tx_type s v room h
