-- How many samples a block writes: of the plane's places, those inside the block cut to it are cut rows × cut columns.
use mathlib.Core.Path.{◌≡◌, refl, sym, ap, ◌∙◌}
use mathlib.Core.Bool.{Bool, true, false, cond, ◌&&◌}
use Prim.Native.Nat.{ℕ, zero, suc, min, ◌+◌, ◌-◌, ◌*◌, ◌≤◌, ◌<◌}
use native.Mathlib.Nat as NatL
use native.Mathlib.Decide.{dec_lt}
use native.Mathlib.Omega.{arith}
use Rattle.plane.specs.declared.Plane.{Plane}
use Rattle.plane.specs.Place.{row_of, column_of, area_of, cut, written}
use Rattle.plane.specs.Plane.{clip, inside, sample_after, plane_after}
use lib.IntN.{ℤ, pos, ◌+ℤ◌}
use lib.ListN.{length, get_or}
use mathlib.Core.List.{List}
use Rattle.whole.proofs.Lists.{get_d_tabulate}
use Rattle.plane.proofs.Row.{inside_yes, inside_low, inside_high}
use Rattle.plane.proofs.Block.{row_of_lem, column_of_lem}

-- how many numbers below n meet a test
unfoldable pub count_below : (ℕ → Bool) → ℕ → ℕ
count_below q zero = 0
count_below q (suc n) = count_below q n + cond (q n) 1 0

count_same : (q r : ℕ → Bool) (n : ℕ) → ((k : ℕ) → k < n → q k ≡ r k) → count_below q n ≡ count_below r n
unfolding count_below
count_same q r zero h = refl
count_same q r (suc n) h = rw (count_same q r n (λ k l. h k (omega arith)), h n (omega arith))

count_none : (n : ℕ) → count_below (λ k. false) n ≡ 0
unfolding count_below
count_none zero = refl
count_none (suc n) = rw (count_none n)

-- of n numbers from `start` on, those below m
count_inside : (start n m : ℕ) → count_below (inside start n) m ≡ min n (m - start)
unfolding count_below
count_inside start n zero = omega arith
count_inside start n (suc m) = go (count_inside start n m) (dec_lt m start) (dec_lt m (start + n))
  where
    go : count_below (inside start n) m ≡ min n (m - start) → Dec (m < start) → Dec (m < start + n) → count_below (inside start n) (suc m) ≡ min n (suc m - start)
    go e (yes l) d = rw (e, inside_low start n m l) (omega arith)
    go e (no l) (yes k) = rw (e, inside_yes start n m (omega arith) k) (omega arith)
    go e (no l) (no k) = rw (e, inside_high start n m (omega arith)) (omega arith)

count_join : (q : ℕ → Bool) (a b : ℕ) → count_below q (a + b) ≡ count_below q a + count_below (λ k. q (a + k)) b
unfolding count_below
count_join q a zero = rw (NatL.add-zero a) (omega arith)
count_join q a (suc b) = let e : a + suc b ≡ suc (a + b) = omega arith in rw e (rw (count_join q a b) (omega arith))

-- one row of a plane: all its columns inside, or none
row_count : (a : Bool) (q : ℕ → Bool) (n : ℕ) → count_below (λ k. a && q k) n ≡ cond a 1 0 * count_below q n
row_count true q n = count_same (λ k. true && q k) q n (λ k l. refl) ∙ omega arith
row_count false q n = count_same (λ k. false && q k) (λ k. false) n (λ k l. refl) ∙ count_none n ∙ omega arith

-- row by row
grid : (q r : ℕ → Bool) (s : ℕ → Bool) (w h : ℕ) → ((i j : ℕ) → i < h → j < w → s (i * w + j) ≡ q i && r j) → count_below s (h * w) ≡ count_below q h * count_below r w
unfolding count_below
grid q r s w zero e = rw (NatL.zero-mul w, NatL.zero-mul (count_below r w))
grid q r s w (suc h) e =
    let m : suc h * w ≡ h * w + w = omega arith in
    let a = grid q r s w h (λ i j l k. e i j (omega arith) k) in
    let b = count_same (λ j. s (h * w + j)) (λ j. q h && r j) w (λ j k. e h j (omega arith) k) ∙ row_count (q h) r w in
    rw m (rw (count_join s (h * w) w, a, b) (sym (NatL.add-mul (count_below q h) (cond (q h) 1 0) (count_below r w))))

-- the block, cut to the plane, writes the sample at k
unfoldable pub writes : Plane → ℕ → ℕ → ℕ → ℕ → Bool
writes p x y n0 k = inside y (cut p.height y n0) (row_of p k) && inside x (cut p.width x n0) (column_of p k)

-- there the sum stands afterwards, elsewhere what stood there
pub writes_there : (p : Plane) (top x y n0 : ℕ) (r : ℕ → ℕ → ℤ) (samples : List ℕ) (k : ℕ) → k < length samples
    → get_or (plane_after p top x y n0 r samples) k 0 ≡ cond (writes p x y n0 k) (clip top (pos (get_or samples k 0) +ℤ r (row_of p k - y) (column_of p k - x))) (get_or samples k 0)
unfolding plane_after sample_after writes
writes_there p top x y n0 r samples k h = get_d_tabulate _ (length samples) k 0 h

-- cut to fewer, none of more is left out
cut_again : (few more start n : ℕ) → few ≤ more → min (cut few start n) (more - start) ≡ cut few start n
cut_again few more start n h = omega arith

-- THE COUNT: of the plane's places, those that the block writes
pub written_count : (p : Plane) (x y n0 : ℕ) → p.width ≤ p.stride → count_below (writes p x y n0) (area_of p) ≡ written p x y n0
unfolding writes written
written_count p x y n0 wide =
    let rows = cut p.height y n0 in
    let cols = cut p.width x n0 in
    ap (count_below (λ k. inside y rows (row_of p k) && inside x cols (column_of p k))) (NatL.mul_comm p.stride p.height)
    ∙ grid (inside y rows) (inside x cols) (λ k. inside y rows (row_of p k) && inside x cols (column_of p k)) p.stride p.height
    (λ i j l k. rw (row_of_lem p i k, column_of_lem p i k))
    ∙ rw (count_inside y rows p.height, count_inside x cols p.stride)
    (rw (cut_again p.height p.height y n0 (NatL.le_refl p.height), cut_again p.width p.stride x n0 wide))

-- they are no more than the plane has, padding left out, and no more than the block has
pub written_most : (p : Plane) (x y n0 : ℕ) → written p x y n0 ≤ p.width * p.height
unfolding written
written_most p x y n0 =
    NatL.le_trans (NatL.mul-le-mul (omega arith) (omega arith)) (NatL.le_of_eq (NatL.mul_comm p.height p.width))

pub written_block : (p : Plane) (x y n0 : ℕ) → written p x y n0 ≤ n0 * n0
unfolding written
written_block p x y n0 = NatL.mul-le-mul (omega arith) (omega arith)
