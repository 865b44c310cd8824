-- A block from one order to the other, eight numbers at a time: the eight from column 8 q on of row i stand side by side in both.
use mathlib.Core.Path.{◌≡◌, refl, sym, ap, ◌∙◌}
use mathlib.Core.List.{List}
use Prim.Native.Nat.{ℕ, zero, suc, ◌+◌, ◌*◌, ◌/◌, ◌%◌, ◌≤◌, ◌<◌}
use native.Mathlib.Nat.{mul_comm, mul-le-mul, mul_left_comm, lt_of_lt_of_le, div-add-mod', mod-lt}
use native.Mathlib.Omega.{arith}
use lib.Arith.{digits_div, digits_mod, digits_lt}
use lib.IntN.{ℤ, pos}
use lib.ListN.{length, get_or, set}
use Rattle.whole.specs.Lists.{tabulate, fill}
use Rattle.whole.specs.Inner.{times}
use Rattle.whole.proofs.Lists.{fill_below, length_tabulate, get_d_tabulate}
use Rattle.narrow.specs.Tile.{place, raster}
use Rattle.narrow.proofs.Tile.{place_is, place_lt, raster_at, raster_is}

-- ---- eight more places filled
more : (g f : ℕ → ℤ) (u : List ℤ) (m k : ℕ) {y z : List ℤ} → y ≡ fill m g u → z ≡ times k (λ c y. set y (m + c) (f c)) y → ((c : ℕ) → c < k → f c ≡ g (m + c))
    → z ≡ fill (m + k) g u
unfolding times fill
more g f u m zero p q e = let h : m + 0 ≡ m = omega arith in rw h (q ∙ p)
more g f u m (suc k) {y} p q e =
    let h : m + suc k ≡ suc (m + k) = omega arith in
    rw h (q ∙ rw (more g f u m k p refl (λ c l. e c (omega arith)), e k (omega arith)))

-- ---- where the eight stand
octet : (n0 q i c : ℕ) → c < 8 → place n0 i (8 * q + c) ≡ 8 * (n0 * q + i) + c
octet n0 q i c h =
    let f : 8 * q + c ≡ q * 8 + c = omega arith in
    place_is n0 i (8 * q + c) ∙ rw (f, digits_div q h, digits_mod q h) (omega (arith, mul_comm q n0))

-- the number of a block read row by row that stands at place p
unfoldable pub source : ℕ → ℕ → ℕ
source n0 p = p / 8 % n0 * n0 + 8 * (p / 8 / n0) + p % 8

source_octet : (n0 q i c : ℕ) → i < n0 → c < 8 → source n0 (8 * (n0 * q + i) + c) ≡ n0 * i + 8 * q + c
unfolding source
source_octet n0 q i c hi hc =
    let f : 8 * (n0 * q + i) + c ≡ (n0 * q + i) * 8 + c = omega arith in
    let g : n0 * q + i ≡ q * n0 + i = omega (arith, mul_comm q n0) in
    rw (f, digits_div (n0 * q + i) hc, digits_mod (n0 * q + i) hc, g, digits_div q hi, digits_mod q hi) (omega (arith, mul_comm i n0))

-- the places exist
pub octet_lt : (n0 q i : ℕ) → n0 ≤ 32 → q < n0 / 8 → i < n0 → (8 * (n0 * q + i) + 8 ≤ 1024) × (n0 * i + 8 * q + 8 ≤ 1024)
octet_lt n0 q i h hq hi =
    let a : n0 * q ≤ 32 * 3 = mul-le-mul h (let b : q ≤ 3 = omega arith in b) in
    let d : n0 * i ≤ 32 * 31 = mul-le-mul h (let b : i ≤ 31 = omega arith in b) in
    (omega arith, omega arith)

module _ (n0 q i : ℕ) (hq : q < n0 / 8) (hi : i < n0) (u : List ℤ) {y v : List ℤ} where
  -- to the strips
  pub to_next : (s : List ℤ) → y ≡ fill (8 * (n0 * q + i)) (λ p. get_or s (source n0 p) (pos 0)) u
      → v ≡ times 8 (λ c y. set y (8 * (n0 * q + i) + c) (get_or s (n0 * i + 8 * q + c) (pos 0))) y → v ≡ fill (8 * (n0 * q + (i + 1))) (λ p. get_or s (source n0 p) (pos 0)) u
  to_next s p e =
      let f : 8 * (n0 * q + i) + 8 ≡ 8 * (n0 * q + (i + 1)) = omega arith in
      rw f at (more (λ p. get_or s (source n0 p) (pos 0)) (λ c. get_or s (n0 * i + 8 * q + c) (pos 0)) u (8 * (n0 * q + i)) 8 p e
      (λ c h. ap (λ (k : ℕ). get_or s k (pos 0)) (sym (source_octet n0 q i c hi h))))

  -- and back
  pub back_next : (z : List ℤ) → y ≡ fill (n0 * i + 8 * q) (λ k. get_or (raster n0 z) k (pos 0)) u
      → v ≡ times 8 (λ c y. set y (n0 * i + 8 * q + c) (get_or z (8 * (n0 * q + i) + c) (pos 0))) y → v ≡ fill (n0 * i + 8 * (q + 1)) (λ k. get_or (raster n0 z) k (pos 0)) u
  back_next z p e =
      let f : n0 * i + 8 * q + 8 ≡ n0 * i + 8 * (q + 1) = omega arith in
      rw f at (more (λ k. get_or (raster n0 z) k (pos 0)) (λ c. get_or z (8 * (n0 * q + i) + c) (pos 0)) u (n0 * i + 8 * q) 8 p e
      (λ c h.
      let j : i * n0 + (8 * q + c) ≡ n0 * i + 8 * q + c = omega (arith, mul_comm i n0) in
      ap (λ (k : ℕ). get_or z k (pos 0)) (sym (octet n0 q i c h)) ∙ sym (raster_at n0 z i (8 * q + c) hi (omega arith)) ∙ ap (λ (k : ℕ). get_or (raster n0 z) k (pos 0)) j))

-- all of them
pub all : (n0 : ℕ) → n0 ≡ 8 * (n0 / 8) → 8 * (n0 * (n0 / 8)) ≡ n0 * n0
all n0 e = mul_left_comm 8 n0 (n0 / 8) ∙ ap (λ (x : ℕ). n0 * x) (sym e)

source_place : (n0 i j : ℕ) → i < n0 → source n0 (place n0 i j) ≡ i * n0 + j
source_place n0 i j hi =
    let e : 8 * (j / 8) + j % 8 ≡ j = omega (arith, div-add-mod' j 8) in
    let h : j % 8 < 8 = mod-lt j (omega arith) in
    ap (λ (k : ℕ). source n0 (place n0 i k)) (sym e)
    ∙ ap (source n0) (octet n0 (j / 8) i (j % 8) h)
    ∙ source_octet n0 (j / 8) i (j % 8) hi h
    ∙ omega (arith, e, mul_comm i n0)

pub to_done : (n0 : ℕ) (s z u : List ℤ) → n0 ≡ 8 * (n0 / 8) → n0 * n0 ≤ length u → z ≡ fill (8 * (n0 * (n0 / 8))) (λ p. get_or s (source n0 p) (pos 0)) u
    → raster n0 z ≡ tabulate (λ k. get_or s k (pos 0)) (n0 * n0)
to_done n0 s z u e room p =
    let g : ℕ → ℤ = λ p. get_or s (source n0 p) (pos 0) in
    let m = all n0 e in
    sym (raster_is n0 z (tabulate (λ k. get_or s k (pos 0)) (n0 * n0)) (length_tabulate (λ k. get_or s k (pos 0)) (n0 * n0))
    (λ i j hi hj.
    let l : place n0 i j < n0 * n0 = place_lt n0 (n0 / 8) i j (e ∙ mul_comm 8 (n0 / 8)) hi hj in
    get_d_tabulate (λ k. get_or s k (pos 0)) (n0 * n0) (i * n0 + j) (pos 0) (digits_lt hi hj)
    ∙ ap (λ (k : ℕ). get_or s k (pos 0)) (sym (source_place n0 i j hi))
    ∙ sym (fill_below (pos 0) (8 * (n0 * (n0 / 8))) g u (place n0 i j) (rw m l) (lt_of_lt_of_le l room))
    ∙ ap (λ (x : List ℤ). get_or x (place n0 i j) (pos 0)) (sym p)))
