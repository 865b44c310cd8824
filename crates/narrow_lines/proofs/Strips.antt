-- Eight lines side by side, turn by turn; strip after strip; and rows of zeros, which stay as they are.
use mathlib.Core.Path.{◌≡◌, refl, sym, ap, subst, ◌∙◌}
use mathlib.Core.Bool.{Bool, true, false}
use mathlib.Core.List.{List}
use Prim.Native.Nat.{ℕ, zero, suc, ◌+◌, ◌-◌, ◌*◌, ◌/◌, ◌^◌, ◌≤◌, ◌<◌}
use native.Mathlib.Nat.{le_antisymm, mul-le-mul_right}
use native.Mathlib.Omega.{arith}
use lib.IntN.{ℤ, pos}
use lib.ListN.{length, get_or}
use lib.Seq.{set-get_or}
use Rattle.whole.specs.Inner.{times}
use Rattle.whole.proofs.Loops.{times_none, times_more, times_keeps}
use Rattle.answers.specs.Sizes.{side}
use Rattle.steps.proofs.Shapes.{Zeros}
use Rattle.dct.proofs.Dct.{two_to_five}
use Rattle.blocks.specs.Block.{row, rows, columns}
use Rattle.blocks.specs.Inner.{set_line, change_line}
use Rattle.blocks.specs.Inverse.{Pass, apply, lossy}
use Rattle.blocks.proofs.Lines.{line_length, line_at, line_same, change_line_other}
use Rattle.blocks.proofs.Blocks.{rows_loop, columns_loop}
use Rattle.blocks.proofs.Passes.{Valid, pass_zeros}
use Rattle.narrow.specs.Tile.{raster}
use Rattle.narrow.proofs.Tile.{raster_length}
use Rattle.weights.specs.Inner.{Keeps}
use Rattle.narrow_lines.specs.Inner.{start, gap, line_of, Holds, strip, first, StripKeeps, Dead}
use Rattle.narrow_lines.proofs.Tiles.{lines_apart}

-- a line past those that are done is as it was
later : (T : List ℤ → List ℤ) (down : Bool) (n0 m i : ℕ) (base : ℕ → ℕ) (s : List ℤ) → ((k : ℕ) → k < m → base k < i) → i < n0
    → line_of down n0 i (times m (λ k. change_line T (λ z. z) (start down n0 (base k)) (gap down n0) n0) s) ≡ line_of down n0 i s
later T down n0 m i base s h l =
    line_same (start down n0 i) (gap down n0) n0 (times m (λ k. change_line T (λ z. z) (start down n0 (base k)) (gap down n0) n0) s) s (λ k hk.
    times_keeps (λ y. get_or y (start down n0 i + k * gap down n0) (pos 0) ≡ get_or s (start down n0 i + k * gap down n0) (pos 0))
    (λ k. change_line T (λ z. z) (start down n0 (base k)) (gap down n0) n0) m s
    (λ q hq y e. change_line_other T (λ z. z) (start down n0 (base q)) (gap down n0) n0 y (start down n0 i + k * gap down n0)
    (λ j hj w. let a : i ≡ base q = (lines_apart down n0 i (base q) k j l (omega (arith, h q hq)) hk hj w).0 in omega (arith, h q hq)) ∙ e)
    refl)

-- ---- one strip
pub strip_none : (down : Bool) (p : Pass) (n at : ℕ) {z : List ℤ} → length z ≡ 1024 → Holds (side n) (strip down p n at 0 (raster (side n) z)) z
unfolding strip
strip_none down p n at l = record { long = l; is = times_none _ _ }

pub strip_done : (down : Bool) (p : Pass) (n at j : ℕ) (s₀ : List ℤ) {z : List ℤ} → j ≤ 8 → 8 ≤ j → Holds (side n) (strip down p n at j s₀) z
    → Holds (side n) (strip down p n at 8 s₀) z
strip_done down p n at j s₀ {z} l h e = subst (λ (i : ℕ). Holds (side n) (strip down p n at i s₀) z) (le_antisymm l h) e

module _ (down : Bool) (p : Pass) (n at j : ℕ) (s₀ : List ℤ) {z : List ℤ} (done : Holds (side n) (strip down p n at j s₀) z) {t : List ℤ}
    (made : t ≡ line_of down (side n) (at + j) (raster (side n) z)) where
  line_is : t ≡ line_of down (side n) (at + j) (strip down p n at j s₀)
  line_is = made ∙ ap (line_of down (side n) (at + j)) done.is

  -- T is the line as it was at the start
  met : j < 8 → at + 8 ≤ side n → t ≡ line_of down (side n) (at + j) s₀
  unfolding strip
  met h l = line_is ∙ later (apply p n) down (side n) j (at + j) (λ i. at + i) s₀ (λ i hi. omega arith) (omega arith)

  -- and may be called with
  pub strip_fine : side n ≤ 32 → StripKeeps down p n at s₀ → j < 8 → at + 8 ≤ side n → (side n ≤ length t) × Keeps p n t
  strip_fine short k h l = (
    rw (ap length made ∙ line_length (start down (side n) (at + j)) (gap down (side n)) (side n) (raster (side n) z)) short,
    subst (Keeps p n) (sym (met h l)) (k.each j h),
  )

  pub strip_next : {u v : List ℤ} → u ≡ apply p n t → Holds (side n) (set_line (λ z. z) (start down (side n) (at + j)) (gap down (side n)) (side n) u (raster (side n) z)) v
      → Holds (side n) (strip down p n at (j + 1) s₀) v
  unfolding strip change_line
  strip_next {u} {v} e f =
      record {
        long = f.long;
        is = times_more _ j s₀ refl
            (f.is ∙ ap (set_line (λ z. z) (start down (side n) (at + j)) (gap down (side n)) (side n) u) done.is
            ∙ ap (λ (x : List ℤ). set_line (λ z. z) (start down (side n) (at + j)) (gap down (side n)) (side n) x (strip down p n at j s₀)) (e ∙ ap (apply p n) line_is));
      }

-- ---- by the size and the transform that a test has told
module _ (down b c : Bool) (n m at : ℕ) (z : List ℤ) (e : b ≡ c) (f : n ≡ m) where
  pub into : at + 8 ≤ side n → length z ≡ 1024 → StripKeeps down (lossy b) n at (raster (side n) z)
      → (at + 8 ≤ side m) × (length z ≡ 1024) × StripKeeps down (lossy c) m at (raster (side m) z)
  into l w k = rw (← e, ← f) (l, w, k)

  pub out_of : {v : List ℤ} → Holds (side m) (strip down (lossy c) m at 8 (raster (side m) z)) v → Holds (side n) (strip down (lossy b) n at 8 (raster (side n) z)) v
  out_of q = rw (e, f) q

-- ---- strip after strip
times_join : {A : Type 0} (f : ℕ → A → A) (a m : ℕ) (x : A) → times m (λ i. f (a + i)) (times a f x) ≡ times (a + m) f x
unfolding times
times_join f a zero x = let e : a + 0 ≡ a = omega arith in rw e
times_join f a (suc m) x = let e : a + suc m ≡ suc (a + m) = omega arith in rw (e, times_join f a m x)

pub first_none : (down : Bool) (p : Pass) (n : ℕ) {z : List ℤ} → length z ≡ 1024 → Holds (side n) (first down p n (8 * 0) (raster (side n) z)) z
unfolding first
first_none down p n l = record { long = l; is = times_none _ _ }

module _ (down : Bool) (p : Pass) (n q : ℕ) (s₀ : List ℤ) {z : List ℤ} (done : Holds (side n) (first down p n (8 * q) s₀) z) where
  pub first_keeps : 8 * q + 8 ≤ side n → ((i : ℕ) → i < 8 * q + 8 → Keeps p n (line_of down (side n) i s₀)) → StripKeeps down p n (8 * q) (raster (side n) z)
  unfolding first
  first_keeps l k = record {
    each = λ j h. subst (Keeps p n)
        (sym (ap (line_of down (side n) (8 * q + j)) done.is ∙ later (apply p n) down (side n) (8 * q) (8 * q + j) (λ i. i) s₀ (λ i hi. omega arith) (omega arith)))
        (k (8 * q + j) (omega arith));
  }

  pub first_next : {v : List ℤ} → Holds (side n) (strip down p n (8 * q) 8 (raster (side n) z)) v → Holds (side n) (first down p n (8 * (q + 1)) s₀) v
  unfolding strip first
  first_next {v} e =
      let f : 8 * (q + 1) ≡ 8 * q + 8 = omega arith in
      record {
        long = e.long;
        is = rw f
            (e.is ∙ ap (times 8 (λ j. change_line (apply p n) (λ z. z) (start down (side n) (8 * q + j)) (gap down (side n)) (side n))) done.is
            ∙ times_join (λ i. change_line (apply p n) (λ z. z) (start down (side n) i) (gap down (side n)) (side n)) (8 * q) 8 s₀);
      }

  pub first_done : (m : ℕ) → q ≤ m → m ≤ q → Holds (side n) (first down p n (8 * m) s₀) z
  first_done m a b = subst (λ (i : ℕ). Holds (side n) (first down p n (8 * i) s₀) z) (le_antisymm a b) done

-- ---- all columns
pub all_eights : (n : ℕ) → 3 ≤ n → n ≤ 5 → 8 * (side n / 8) ≡ side n
all_eights n l h = two_to_five (λ n. 3 ≤ n → 8 * (side n / 8) ≡ side n) (λ l. absurd (omega arith)) (λ _. refl) (λ _. refl) (λ _. refl) n (omega arith) h l

pub columns_done : (p : Pass) (n : ℕ) (z : List ℤ) {v : List ℤ} → 3 ≤ n → n ≤ 5 → Holds (side n) (first true p n (8 * (side n / 8)) (raster (side n) z)) v
    → raster (side n) v ≡ columns (apply p n) (λ z. z) (side n) (raster (side n) z)
unfolding first
columns_done p n z l h e =
    e.is ∙ ap (λ (m : ℕ). first true p n m (raster (side n) z)) (all_eights n l h)
    ∙ columns_loop (apply p n) (λ z. z) (side n) (raster (side n) z) (rw raster_length (omega arith))

-- ---- all rows: a row of zeros is its own transform, and a line stored where it stood changes nothing
pub valid : (b : Bool) (n : ℕ) → 3 ≤ n → n ≤ 5 → (b ≡ false → n ≤ 4) → Valid 2 (lossy b) n
valid true n l h k = (omega arith, h)
valid false n l h k = (omega arith, k refl)

own : (start step n m : ℕ) (t u : List ℤ) → m ≤ n → ((k : ℕ) → k < n → get_or t k (pos 0) ≡ get_or u (start + k * step) (pos 0)) → set_line (λ z. z) start step m t u ≡ u
unfolding set_line times
own start step n zero t u h e = refl
own start step n (suc m) t u h e =
    rw (own start step n m t u (omega arith) e, e m (omega arith)) (set-get_or u (start + m * step) (pos 0))

module _ (p : Pass) (n m : ℕ) (s : List ℤ) (v : Valid 2 p n) (short : side n ≤ 32) (dead : (i k : ℕ) → m ≤ i → i < side n → k < side n → get_or s (i * side n + k * 1) (pos 0) ≡ pos 0) where
  -- row i, while those before it are done
  still_row : (i : ℕ) → m ≤ i → i < side n → change_line (apply p n) (λ z. z) (i * side n) 1 (side n) (first false p n i s) ≡ first false p n i s
  unfolding change_line first
  still_row i l h =
      let u = first false p n i s in
      let t = row (side n) i u in
      let e : t ≡ row (side n) i s = later (apply p n) false (side n) i i (λ k. k) s (λ k hk. hk) h in
      let z : Zeros (2 ^ n) t = record {
        long = rw (line_length (i * side n) 1 (side n) u) short;
        zeros = λ k hk. ap (λ (x : List ℤ). get_or x k (pos 0)) e ∙ line_at (i * side n) 1 (side n) s k short hk ∙ dead i k l h hk;
      } in
      ap (λ (x : List ℤ). set_line (λ z. z) (i * side n) 1 (side n) x u) (pass_zeros 2 p n v z)
      ∙ own (i * side n) 1 (side n) (side n) t u (omega arith) (λ k hk. line_at (i * side n) 1 (side n) u k short hk)

  still : (r : ℕ) → m + r ≤ side n → first false p n (m + r) s ≡ first false p n m s
  unfolding first times
  still zero h = let e : m + 0 ≡ m = omega arith in rw e
  still (suc r) h = let e : m + suc r ≡ suc (m + r) = omega arith in rw e (still_row (m + r) (omega arith) (omega arith) ∙ still r (omega arith))

  pub rows_all : m ≤ side n → length s ≡ side n * side n → first false p n m s ≡ rows (apply p n) (side n) s
  unfolding first
  rows_all h l =
      let e : m + (side n - m) ≡ side n = omega arith in
      sym (still (side n - m) (omega arith)) ∙ ap (λ (i : ℕ). first false p n i s) e ∙ rows_loop (apply p n) (side n) s (omega arith)

pub rows_done : (p : Pass) (n m : ℕ) (z : List ℤ) {v : List ℤ} → Valid 2 p n → side n ≤ 32 → 8 * m ≤ side n → Dead (8 * m * side n) (raster (side n) z)
    → Holds (side n) (first false p n (8 * m) (raster (side n) z)) v → raster (side n) v ≡ rows (apply p n) (side n) (raster (side n) z)
rows_done p n m z v short h dead e =
    e.is
    ∙ rows_all p n (8 * m) (raster (side n) z) v short
    (λ i k l hi hk. dead (i * side n + k * 1) (let q : 8 * m * side n ≤ i * side n = mul-le-mul_right (side n) l in omega arith))
    h (raster_length (side n) z)
