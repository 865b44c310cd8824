-- The order by strips of eight columns: every place of the block is of one row and one column, so what is stored there is stored in the block read row by row.
use mathlib.Core.Path.{◌≡◌, sym, ap, ◌∙◌}
use mathlib.Core.List.{List}
use Prim.Native.Nat.{ℕ, zero, suc, ◌+◌, ◌*◌, ◌/◌, ◌%◌, ◌≤◌, ◌<◌}
use native.Mathlib.Nat.{div-add-mod', mod-lt, div-lt_iff_lt-mul, lt_of_lt_of_le, mul_comm, mul_assoc, add-mul}
use native.Mathlib.Decide.{ℕ_discrete}
use native.Mathlib.Omega.{arith}
use lib.Arith.{digits_lt, digits_div, digits_mod}
use lib.IntN.{ℤ, pos}
use lib.ListN.{length, get_or, set, length-set}
use lib.Seq.{get_or-set_same, get_or-set_other}
use Rattle.whole.proofs.Lists.{length_tabulate, get_d_tabulate, tabulate_is}
use Rattle.narrow.specs.Tile.{place, raster}

-- a number is one pair of digits
digits : (m i j k l : ℕ) → j < m → l < m → i * m + j ≡ k * m + l → (i ≡ k) × (j ≡ l)
digits m i j k l hj hl e =
    (sym (digits_div i hj) ∙ ap (λ (x : ℕ). x / m) e ∙ digits_div k hl, sym (digits_mod i hj) ∙ ap (λ (x : ℕ). x % m) e ∙ digits_mod k hl)

-- the place by its digits: strip and row, and the column within the strip
pub place_is : (n0 i j : ℕ) → place n0 i j ≡ (j / 8 * n0 + i) * 8 + j % 8
unfolding place
place_is n0 i j = omega (arith, mul_comm n0 (j / 8), mul_assoc 8 n0 (j / 8), add-mul (j / 8 * n0) i 8)

pub place_apart : (n0 i j k l : ℕ) → i < n0 → k < n0 → place n0 i j ≡ place n0 k l → (i ≡ k) × (j ≡ l)
place_apart n0 i j k l hi hk q =
    let a = digits 8 (j / 8 * n0 + i) (j % 8) (l / 8 * n0 + k) (l % 8) (mod-lt j (omega arith)) (mod-lt l (omega arith)) (sym (place_is n0 i j) ∙ q ∙ place_is n0 k l) in
    let b = digits n0 (j / 8) i (l / 8) k hi hk a.0 in
    (b.1, sym (div-add-mod' j 8) ∙ ap (λ (x : ℕ). x * 8 + j % 8) b.0 ∙ ap (λ (x : ℕ). l / 8 * 8 + x) a.1 ∙ div-add-mod' l 8)

-- a block whose rows are whole strips
pub place_lt : (n0 w i j : ℕ) → n0 ≡ w * 8 → i < n0 → j < n0 → place n0 i j < n0 * n0
place_lt n0 w i j e hi hj =
    let q : j / 8 < w = omega (arith, div-add-mod' j 8) in
    let r : (j / 8 * n0 + i) * 8 + j % 8 < w * n0 * 8 = digits_lt (digits_lt q hi) (mod-lt j (omega arith)) in
    rw place_is (let f : w * n0 * 8 ≡ n0 * n0 = (mul_assoc w n0 8 ∙ ap (λ (x : ℕ). w * x) (mul_comm n0 8) ∙ sym (mul_assoc w 8 n0) ∙ ap (λ (x : ℕ). x * n0) (sym e)) in rw f at r)

pub raster_length : (n0 : ℕ) (z : List ℤ) → length (raster n0 z) ≡ n0 * n0
unfolding raster
raster_length n0 z = length_tabulate _ (n0 * n0)

pub raster_at : (n0 : ℕ) (z : List ℤ) (i j : ℕ) → i < n0 → j < n0 → get_or (raster n0 z) (i * n0 + j) (pos 0) ≡ get_or z (place n0 i j) (pos 0)
unfolding raster
raster_at n0 z i j hi hj =
    get_d_tabulate (λ k. get_or z (place n0 (k / n0) (k % n0)) (pos 0)) (n0 * n0) (i * n0 + j) (pos 0) (digits_lt hi hj)
    ∙ rw (digits_div i hj, digits_mod i hj)

some : (n p : ℕ) → p < n * n → 0 < n
some zero p h = absurd (omega arith)
some (suc n) p h = omega arith

-- a list is the block read row by row if it has its numbers
pub raster_is : (n0 : ℕ) (z l : List ℤ) → length l ≡ n0 * n0 → ((i j : ℕ) → i < n0 → j < n0 → get_or l (i * n0 + j) (pos 0) ≡ get_or z (place n0 i j) (pos 0))
    → l ≡ raster n0 z
unfolding raster
raster_is n0 z l long same =
    tabulate_is (pos 0) (λ k. get_or z (place n0 (k / n0) (k % n0)) (pos 0)) l (n0 * n0) long
    (λ k h. let n = some n0 k h in rw (div-add-mod' k n0) at (same (k / n0) (k % n0) ((div-lt_iff_lt-mul n).1 h) (mod-lt k n)))

-- a number stored at its place is stored in the block
pub raster_set : (n0 w : ℕ) (z : List ℤ) (i j : ℕ) (x : ℤ) → n0 ≡ w * 8 → n0 * n0 ≤ length z → i < n0 → j < n0
    → set (raster n0 z) (i * n0 + j) x ≡ raster n0 (set z (place n0 i j) x)
raster_set n0 w z i j x e room hi hj =
    raster_is n0 (set z (place n0 i j) x) (set (raster n0 z) (i * n0 + j) x) (length-set (raster n0 z) (i * n0 + j) x ∙ raster_length n0 z)
    (λ k l hk hl. go k l hk hl (ℕ_discrete (k * n0 + l) (i * n0 + j)))
  where
    go : (k l : ℕ) → k < n0 → l < n0 → Dec (k * n0 + l ≡ i * n0 + j)
        → get_or (set (raster n0 z) (i * n0 + j) x) (k * n0 + l) (pos 0) ≡ get_or (set z (place n0 i j) x) (place n0 k l) (pos 0)
    go k l hk hl (yes q) =
        let d = digits n0 k l i j hl hj q in
        rw (d.0, d.1)
        (get_or-set_same (raster n0 z) (i * n0 + j) x (pos 0) (rw raster_length (digits_lt hi hj))
        ∙ sym (get_or-set_same z (place n0 i j) x (pos 0) (lt_of_lt_of_le (place_lt n0 w i j e hi hj) room)))
    go k l hk hl (no ne) =
        get_or-set_other (raster n0 z) (i * n0 + j) (k * n0 + l) x (pos 0) ne
        ∙ raster_at n0 z k l hk hl
        ∙ sym (get_or-set_other z (place n0 i j) (place n0 k l) x (pos 0)
        (λ q. let d = place_apart n0 k l i j hk hi q in ne (rw (d.0, d.1))))
