-- Laws of a pass's transform, over the pass: entries past the line stay, zeros stay zeros, how far it grows.
use mathlib.Core.Path.{◌≡◌, refl}
use mathlib.Core.Bool.{Bool, true, false, cond, ◌||◌}
use mathlib.Core.List.{List}
use mathlib.Core.Logic.{⊎_elim}
use Prim.Native.Nat.{ℕ, ◌^◌, ◌≤◌, ◌<◌}
use native.Mathlib.Nat.{eq-or-lt_of_le}
use native.Mathlib.Omega.{arith}
use lib.Dec.{eqb}
use lib.IntN.{ℤ}
use lib.ListN.{length, replicate, length-replicate, get_or-replicate}
use Rattle.whole.proofs.Within.{EachWithin}
use Rattle.steps.proofs.Shapes.{Zeros}
use Rattle.steps.proofs.Places.{Stays}
use Rattle.dct.proofs.Dct.{dct_stays, dct_zeros}
use Rattle.dct.proofs.Ranges.{dct_row_lem, dct_column}
use Rattle.adst.proofs.Adst.{adst_stays, adst_zeros}
use Rattle.adst.proofs.Ranges.{adst_row, adst_column}
use Rattle.wht.proofs.Wht.{wht_stays, wht_zeros}
use Rattle.wht.proofs.Ranges.{wht_row_lem, wht_column}
pub use Rattle.blocks.specs.Inner.{Valid}
use Rattle.blocks.specs.Inner.{FirstWithin, Possible, Safe, Sized}
use Rattle.blocks.specs.Kind.{is_wht}
use Rattle.blocks.specs.Inverse.{Pass, Dct, Adst, Wht, apply, lossy, row_pass, column_pass}

-- what is Valid at a shift of at most 2 is Sized
pub valid_sized : (shift : ℕ) (p : Pass) (n : ℕ) → shift ≤ 2 → Valid shift p n → Sized p n
valid_sized shift Dct n s v = v
valid_sized shift Adst n s v = v
valid_sized shift (Wht k) n s v = (v.0, omega (arith, v.1))

-- ---- the same range in two forms
pub first_each : {m n : ℕ} {t : List ℤ} → FirstWithin m n t → EachWithin (replicate n m) t
first_each {m} {n} {t} h =
    record { each = λ k l. let q : k < n = rw length-replicate at l in rw (get_or-replicate n k m 0 q) (h.each k q) }

pub each_first : (m n : ℕ) {t : List ℤ} → EachWithin (replicate n m) t → FirstWithin m n t
each_first m n h =
    record { each = λ k l. let q : k < length (replicate n m) = rw length-replicate l in rw (get_or-replicate n k m 0 l) at (h.each k q) }

-- ---- over the pass
pub pass_stays : (shift : ℕ) (p : Pass) (n : ℕ) → Valid shift p n → (t : List ℤ) → Stays (2 ^ n) t (apply p n t)
unfolding apply
pass_stays shift Dct n v t = dct_stays n v.0 v.1 t
pass_stays shift Adst n v t = adst_stays n v.0 v.1 t
pass_stays shift (Wht k) n v t = rw v.0 (wht_stays k t)

pub pass_zeros : (shift : ℕ) (p : Pass) (n : ℕ) → Valid shift p n → {t : List ℤ} → Zeros (2 ^ n) t → apply p n t ≡ t
unfolding apply
pass_zeros shift Dct n v z = dct_zeros n v.0 v.1 z
pass_zeros shift Adst n v z = adst_zeros n v.0 v.1 z
pass_zeros shift (Wht k) n v {t} z = wht_zeros k (rw v.0 at z)

-- rows: from 2^31 to 2^37; columns: from 2^37 to 2^43
pub pass_row : (p : Pass) (n : ℕ) → Valid 2 p n → {t : List ℤ} → EachWithin (replicate (2 ^ n) (2 ^ 31)) t
    → Safe p n t × EachWithin (replicate (2 ^ n) (2 ^ 37)) (apply p n t)
unfolding apply Safe
pass_row Dct n v b = dct_row_lem n v.0 v.1 b
pass_row Adst n v b = adst_row n v.0 v.1 b
pass_row (Wht k) n v {t} b = rw (v.0, v.1) (wht_row_lem (rw v.0 at b))

pub pass_column : (p : Pass) (n : ℕ) → Valid 0 p n → {t : List ℤ} → EachWithin (replicate (2 ^ n) (2 ^ 37)) t
    → Safe p n t × EachWithin (replicate (2 ^ n) (2 ^ 43)) (apply p n t)
unfolding apply Safe
pass_column Dct n v b = dct_column n v.0 v.1 b
pass_column Adst n v b = adst_column n v.0 v.1 b
pass_column (Wht k) n v {t} b = rw (v.0, v.1) (wht_column (rw v.0 at b))

-- ---- the passes of the sizes and types that there are
lossy_valid : (shift : ℕ) (b : Bool) (n : ℕ) → 2 ≤ n → n ≤ 5 → (n ≡ 5 → b ≡ true) → Valid shift (lossy b) n
lossy_valid shift true n l h f = (l, h)
lossy_valid shift false n l h f =
    (l, ⊎_elim (λ (e : n ≡ 5). let q : false ≡ true = f e in let z : ◌≡◌ {A = ℕ} 0 1 = cc in omega arith) (λ (k : n < 5). omega arith) (eq-or-lt_of_le h))

-- up to 16 numbers, either
pub small_valid : (shift : ℕ) (b : Bool) (n : ℕ) → 2 ≤ n → n ≤ 4 → Valid shift (lossy b) n
small_valid shift true n l h = (l, omega arith)
small_valid shift false n l h = (l, h)

pub row_valid : (n tx_type : ℕ) (lossless : Bool) → Possible n tx_type lossless → Valid 2 (row_pass tx_type lossless) n
row_valid n tx_type true h = (h.small refl, refl)
row_valid n tx_type false h = lossy_valid 2 (eqb tx_type 0 || eqb tx_type 1) n h.least h.most (λ e. rw (h.large refl e))

pub column_valid : (n tx_type : ℕ) (lossless : Bool) → Possible n tx_type lossless → Valid 0 (column_pass tx_type lossless) n
column_valid n tx_type true h = (h.small refl, refl)
column_valid n tx_type false h = lossy_valid 0 (eqb tx_type 0 || eqb tx_type 2) n h.least h.most (λ e. rw (h.large refl e))

-- the passes of a lossless block are the WHT, and those of another are not
lossy_wht : (b : Bool) → is_wht (lossy b) ≡ false
lossy_wht true = refl
lossy_wht false = refl

pub row_wht : (tx_type : ℕ) (lossless : Bool) → is_wht (row_pass tx_type lossless) ≡ lossless
row_wht tx_type true = refl
row_wht tx_type false = lossy_wht (eqb tx_type 0 || eqb tx_type 1)

pub column_wht : (tx_type : ℕ) (lossless : Bool) → is_wht (column_pass tx_type lossless) ≡ lossless
column_wht tx_type true = refl
column_wht tx_type false = lossy_wht (eqb tx_type 0 || eqb tx_type 2)

-- where it is the ADST, n is at most 4
pub adst_side : (shift k n : ℕ) (lossless use_dct : Bool) → Valid shift (cond lossless (Wht k) (lossy use_dct)) n → lossless ≡ false → use_dct ≡ false → n ≤ 4
adst_side shift k n true b v e f = let z : ◌≡◌ {A = ℕ} 0 1 = cc in omega arith
adst_side shift k n false true v e f = let z : ◌≡◌ {A = ℕ} 0 1 = cc in omega arith
adst_side shift k n false false v e f = v.1
