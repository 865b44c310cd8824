-- A row of samples by where k stands: outside, inside, nothing written yet, one sample more.
use mathlib.Core.Path.{◌≡◌, refl, sym, ◌∙◌}
use mathlib.Core.Bool.{Bool, true, false, ◌&&◌}
use mathlib.Core.List.{List}
use Prim.Native.Nat.{ℕ, ◌+◌, ◌-◌, ◌<◌, ◌≤◌}
use native.Mathlib.Decide.{dec_lt, ℕ_discrete}
use native.Mathlib.Omega.{arith}
use borrow.Author.Tests.{le-leb, lt-leb, lt-ltb, le-ltb, leb-true, ltb-true}
use lib.Dec.{leb, ltb}
use lib.IntN.{ℤ, pos, ◌+ℤ◌}
use lib.ListN.{length, get_or, set}
use lib.Seq.{get_or-set_same, get_or-set_other}
use Rattle.plane.specs.Plane.{clip, inside}
use Rattle.plane.specs.Inner.{row_after}

and_false : (b : Bool) → b && false ≡ false
and_false true = refl
and_false false = refl

module _ (start n v : ℕ) where
  pub inside_yes : start ≤ v → v < start + n → inside start n v ≡ true
  unfolding inside
  inside_yes h l = rw (le-leb start v h, lt-ltb v (start + n) l)

  pub inside_low : v < start → inside start n v ≡ false
  unfolding inside
  inside_low h = rw (lt-leb start v h)

  pub inside_high : start + n ≤ v → inside start n v ≡ false
  unfolding inside
  inside_high h = rw (le-ltb v (start + n) h) (and_false (leb start v))

-- what the test says
pub inside_is : (start n v : ℕ) → inside start n v ≡ true → (start ≤ v) × (v < start + n)
unfolding inside
inside_is start n v h = go (leb start v) (ltb v (start + n)) refl refl
  where
    go : (a b : Bool) → leb start v ≡ a → ltb v (start + n) ≡ b → (start ≤ v) × (v < start + n)
    go true true p q = (leb-true start v p, ltb-true v (start + n) q)
    go true false p q = absurd (let z : ◌≡◌ {A = ℕ} 0 1 = cc (rw (p, q) at h) in omega arith)
    go false b p q = absurd (let z : ◌≡◌ {A = ℕ} 0 1 = cc (rw p at h) in omega arith)

module _ (top : ℕ) (r : ℕ → ℤ) (at : ℕ) (samples : List ℕ) where
  pub row_out : (n k : ℕ) → inside at n k ≡ false → row_after top r at n samples k ≡ get_or samples k 0
  unfolding row_after
  row_out n k h = rw h

  pub row_in : (n k : ℕ) → inside at n k ≡ true → row_after top r at n samples k ≡ clip top (pos (get_or samples k 0) +ℤ r (k - at))
  unfolding row_after
  row_in n k h = rw h

  pub row_none : (k : ℕ) → get_or samples k 0 ≡ row_after top r at 0 samples k
  row_none k = go (dec_lt k at)
    where
      go : Dec (k < at) → get_or samples k 0 ≡ row_after top r at 0 samples k
      go (yes h) = sym (row_out 0 k (inside_low at 0 k h))
      go (no h) = sym (row_out 0 k (inside_high at 0 k (omega arith)))

  -- one sample more changes no other
  same : (j k : ℕ) → (k ≡ at + j → ⊥) → row_after top r at j samples k ≡ row_after top r at (j + 1) samples k
  same j k ne = go (dec_lt k at) (dec_lt k (at + j))
    where
      go : Dec (k < at) → Dec (k < at + j) → row_after top r at j samples k ≡ row_after top r at (j + 1) samples k
      go (yes h) d = row_out j k (inside_low at j k h) ∙ sym (row_out (j + 1) k (inside_low at (j + 1) k h))
      go (no h) (yes l) =
          row_in j k (inside_yes at j k (omega arith) l) ∙ sym (row_in (j + 1) k (inside_yes at (j + 1) k (omega arith) (omega arith)))
      go (no h) (no l) =
          row_out j k (inside_high at j k (omega arith)) ∙ sym (row_out (j + 1) k (inside_high at (j + 1) k (omega arith)))

  pub row_more : (cur : List ℕ) (j v : ℕ) → ((k : ℕ) → get_or cur k 0 ≡ row_after top r at j samples k) → at + j < length cur
      → v ≡ clip top (pos (get_or cur (at + j) 0) +ℤ r j)
      → (k : ℕ) → get_or (set cur (at + j) v) k 0 ≡ row_after top r at (j + 1) samples k
  row_more cur j v h l e k = go (ℕ_discrete k (at + j))
    where
      go : Dec (k ≡ at + j) → get_or (set cur (at + j) v) k 0 ≡ row_after top r at (j + 1) samples k
      go (no ne) = get_or-set_other cur (at + j) k v 0 ne ∙ h k ∙ same j k ne
      go (yes q) =
          let old : get_or cur (at + j) 0 ≡ get_or samples (at + j) 0 = h (at + j) ∙ row_out j (at + j) (inside_high at j (at + j) (omega arith)) in
          let number : at + j - at ≡ j = omega arith in
          rw q
          (get_or-set_same cur (at + j) v 0 l ∙ e
          ∙ rw old (sym (row_in (j + 1) (at + j) (inside_yes at (j + 1) (at + j) (omega arith) (omega arith)) ∙ rw number refl)))
