-- The lines of a block that stands by strips of eight columns: where their numbers stand, and that what is stored there is stored in the line.
use mathlib.Core.Path.{◌≡◌, sym, ap, ◌∙◌}
use mathlib.Core.Bool.{Bool, true, false}
use mathlib.Core.List.{List}
use Prim.Native.Nat.{ℕ, ◌+◌, ◌*◌, ◌/◌, ◌%◌, ◌≤◌, ◌<◌}
use native.Mathlib.Nat.{add_comm, mul-one, mul-le-mul, lt_of_lt_of_le, div-add-mod'}
use native.Mathlib.Numerals.{add-one}
use native.Mathlib.Omega.{arith}
use lib.IntN.{ℤ, pos}
use lib.ListN.{length, get_or, set, length-set}
use Rattle.whole.specs.Inner.{times}
use Rattle.blocks.specs.Inner.{set_line}
use Rattle.blocks.proofs.Places.{rows_apart, columns_apart}
use Rattle.narrow.specs.Tile.{raster}
use Rattle.narrow.proofs.Tile.{place_lt, raster_at, raster_set}
use Rattle.narrow_lines.specs.Inner.{start, gap, spot, Whole, Holds}

eights : (n0 : ℕ) → n0 % 8 ≡ 0 → n0 ≡ n0 / 8 * 8
eights n0 h = omega (arith, div-add-mod' n0 8)

pub room : (n0 : ℕ) → n0 ≤ 32 → n0 * n0 ≤ 1024
room n0 h = mul-le-mul h h

pub spot_lt : (down : Bool) (n0 i k : ℕ) → Whole n0 → i < n0 → k < n0 → spot down n0 i k < 1024
spot_lt true n0 i k w hi hk = lt_of_lt_of_le (place_lt n0 (n0 / 8) k i (eights n0 w.0) hk hi) (room n0 w.1)
spot_lt false n0 i k w hi hk = lt_of_lt_of_le (place_lt n0 (n0 / 8) i k (eights n0 w.0) hi hk) (room n0 w.1)

pub spot_at : (down : Bool) (n0 : ℕ) (z : List ℤ) (i k : ℕ) → i < n0 → k < n0
    → get_or z (spot down n0 i k) (pos 0) ≡ get_or (raster n0 z) (start down n0 i + k * gap down n0) (pos 0)
spot_at true n0 z i k hi hk = sym (raster_at n0 z k i hk hi) ∙ ap (λ (p : ℕ). get_or (raster n0 z) p (pos 0)) (add_comm (k * n0) i)
spot_at false n0 z i k hi hk = sym (raster_at n0 z i k hi hk) ∙ ap (λ (p : ℕ). get_or (raster n0 z) (i * n0 + p) (pos 0)) (sym (mul-one k))

set_at : (down : Bool) (n0 : ℕ) (z : List ℤ) (i k : ℕ) (x : ℤ) → Whole n0 → length z ≡ 1024 → i < n0 → k < n0
    → raster n0 (set z (spot down n0 i k) x) ≡ set (raster n0 z) (start down n0 i + k * gap down n0) x
set_at true n0 z i k x w l hi hk =
    sym (raster_set n0 (n0 / 8) z k i x (eights n0 w.0) (rw l (room n0 w.1)) hk hi) ∙ ap (λ (p : ℕ). set (raster n0 z) p x) (add_comm (k * n0) i)
set_at false n0 z i k x w l hi hk =
    sym (raster_set n0 (n0 / 8) z i k x (eights n0 w.0) (rw l (room n0 w.1)) hi hk) ∙ ap (λ (p : ℕ). set (raster n0 z) (i * n0 + p) x) (sym (mul-one k))

-- a number stored
set_holds : (down : Bool) (n0 : ℕ) {s z : List ℤ} (i k : ℕ) (x : ℤ) → Whole n0 → i < n0 → k < n0 → Holds n0 s z
    → Holds n0 (set s (start down n0 i + k * gap down n0) x) (set z (spot down n0 i k) x)
set_holds down n0 {s} {z} i k x w hi hk h =
    record {
      long = length-set z (spot down n0 i k) x ∙ h.long;
      is = set_at down n0 z i k x w h.long hi hk ∙ ap (λ (l : List ℤ). set l (start down n0 i + k * gap down n0) x) h.is;
    }

-- a line stored, turn by turn
pub store_next : (down : Bool) (n0 i k : ℕ) (t s : List ℤ) {z : List ℤ} → Whole n0 → i < n0 → k < n0
    → Holds n0 (set_line (λ z. z) (start down n0 i) (gap down n0) k t s) z → Holds n0 (set_line (λ z. z) (start down n0 i) (gap down n0) (k + 1) t s) (set z (spot down n0 i k) (get_or t k (pos 0)))
unfolding set_line times
store_next down n0 i k t s w hi hk h = rw add-one (set_holds down n0 i k (get_or t k (pos 0)) w hi hk h)

-- a place is of one line
pub lines_apart : (down : Bool) (n0 i j k l : ℕ) → i < n0 → j < n0 → k < n0 → l < n0
    → start down n0 i + k * gap down n0 ≡ start down n0 j + l * gap down n0 → (i ≡ j) × (k ≡ l)
lines_apart true = columns_apart
lines_apart false = rows_apart
