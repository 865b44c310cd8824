-- Laws of lines: what stands in one, what `put` writes and leaves.
use mathlib.Core.Path.{◌≡◌, refl, sym, ◌∙◌}
use mathlib.Core.List.{List}
use mathlib.Core.Logic.{⊎_elim, ◌≢◌}
use Prim.Native.Nat.{ℕ, zero, suc, ◌+◌, ◌*◌, ◌≤◌, ◌<◌}
use native.Mathlib.Nat.{eq-or-lt_of_le}
use native.Mathlib.Omega.{arith}
use lib.IntN.{ℤ, pos}
use lib.ListN.{length, get_or, set, replicate, length-set}
use lib.Seq.{get_or-set_same, get_or-set_other, ext_get_or}
use Rattle.whole.specs.Lists.{fill}
use Rattle.whole.specs.Inner.{times}
use Rattle.whole.proofs.Loops.{times_keeps}
use Rattle.blocks.specs.Block.{line}
use Rattle.blocks.specs.Inner.{set_line, change_line}
use Rattle.blocks.proofs.Places.{le_or_lt}

-- ---- what `fill` does to each place
pub fill_length : (n : ℕ) (g : ℕ → ℤ) (u : List ℤ) → length (fill n g u) ≡ length u
unfolding fill
fill_length zero g u = refl
fill_length (suc n) g u = length-set (fill n g u) n (g n) ∙ fill_length n g u

pub fill_past : (n : ℕ) (g : ℕ → ℤ) (u : List ℤ) (k : ℕ) → n ≤ k → get_or (fill n g u) k (pos 0) ≡ get_or u k (pos 0)
unfolding fill
fill_past zero g u k h = refl
fill_past (suc n) g u k h = get_or-set_other (fill n g u) n k (g n) (pos 0) (λ e. omega arith) ∙ fill_past n g u k (omega arith)

pub fill_at : (n : ℕ) (g : ℕ → ℤ) (u : List ℤ) (k : ℕ) → n ≤ length u → k < n → get_or (fill n g u) k (pos 0) ≡ g k
unfolding fill
fill_at zero g u k l h = absurd (omega arith)
fill_at (suc n) g u k l h = ⊎_elim
    (λ (e : k ≡ n). rw e (get_or-set_same (fill n g u) n (g n) (pos 0) (rw (fill_length n g u) l)))
    (λ (q : k < n). get_or-set_other (fill n g u) n k (g n) (pos 0) (λ e. omega arith) ∙ fill_at n g u k (omega arith) q)
    (eq-or-lt_of_le (omega arith))

-- ---- a line
pub line_length : (start step n : ℕ) (s : List ℤ) → length (line start step n s) ≡ 32
unfolding line
line_length start step n s = fill_length n (λ k. get_or s (start + k * step) (pos 0)) (replicate 32 (pos 0))

pub line_at : (start step n : ℕ) (s : List ℤ) (k : ℕ) → n ≤ 32 → k < n → get_or (line start step n s) k (pos 0) ≡ get_or s (start + k * step) (pos 0)
unfolding line
line_at start step n s k h l = fill_at n (λ k. get_or s (start + k * step) (pos 0)) (replicate 32 (pos 0)) k h l

-- 0 of zeros, within them and past their end
pub zeros_at : (n k : ℕ) → get_or (replicate n (pos 0)) k (pos 0) ≡ pos 0
zeros_at zero k = refl
zeros_at (suc n) zero = refl
zeros_at (suc n) (suc k) = zeros_at n k

pub line_past : (start step n : ℕ) (s : List ℤ) (k : ℕ) → n ≤ k → get_or (line start step n s) k (pos 0) ≡ pos 0
unfolding line
line_past start step n s k h = fill_past n (λ k. get_or s (start + k * step) (pos 0)) (replicate 32 (pos 0)) k h ∙ zeros_at 32 k

-- T after its first n numbers are written, where the others were zeros
pub fill_line : (start step n : ℕ) (s t : List ℤ) → n ≤ 32 → length t ≡ 32 → ((k : ℕ) → n ≤ k → get_or t k (pos 0) ≡ pos 0)
    → fill n (λ k. get_or s (start + k * step) (pos 0)) t ≡ line start step n s
unfolding line
fill_line start step n s t h l z =
    let g : ℕ → ℤ = λ k. get_or s (start + k * step) (pos 0) in
    ext_get_or (pos 0) (fill n g t) (fill n g (replicate 32 (pos 0)))
    (fill_length n g t ∙ l ∙ sym (fill_length n g (replicate 32 (pos 0))))
    (λ k _. ⊎_elim
    (λ (q : n ≤ k). fill_past n g t k q ∙ z k q ∙ sym (zeros_at 32 k) ∙ sym (fill_past n g (replicate 32 (pos 0)) k q))
    (λ (q : k < n). fill_at n g t k (omega arith) q ∙ sym (fill_at n g (replicate 32 (pos 0)) k (omega arith) q))
    (le_or_lt n k))

fill_same : (n : ℕ) (f g : ℕ → ℤ) (u : List ℤ) → ((k : ℕ) → k < n → f k ≡ g k) → fill n f u ≡ fill n g u
unfolding fill
fill_same zero f g u e = refl
fill_same (suc n) f g u e = rw (fill_same n f g u (λ k h. e k (omega arith)), e n (omega arith))

-- a line is what stands in its places
pub line_same : (start step n : ℕ) (s u : List ℤ) → ((k : ℕ) → k < n → get_or s (start + k * step) (pos 0) ≡ get_or u (start + k * step) (pos 0))
    → line start step n s ≡ line start step n u
unfolding line
line_same start step n s u e = fill_same n (λ k. get_or s (start + k * step) (pos 0)) (λ k. get_or u (start + k * step) (pos 0)) (replicate 32 (pos 0)) e

-- ---- a loop of stores: the length, a place that it does not write, a place that no later turn writes
stores_length : (p : ℕ → ℕ) (f : ℕ → ℤ) (n : ℕ) (s : List ℤ) → length (times n (λ k s. set s (p k) (f k)) s) ≡ length s
stores_length p f n s = times_keeps (λ y. length y ≡ length s) (λ k s. set s (p k) (f k)) n s (λ k h y e. length-set y (p k) (f k) ∙ e) refl

stores_other : (p : ℕ → ℕ) (f : ℕ → ℤ) (n : ℕ) (s : List ℤ) (i : ℕ) → ((k : ℕ) → k < n → i ≢ p k)
    → get_or (times n (λ k s. set s (p k) (f k)) s) i (pos 0) ≡ get_or s i (pos 0)
stores_other p f n s i away =
    times_keeps (λ y. get_or y i (pos 0) ≡ get_or s i (pos 0)) (λ k s. set s (p k) (f k)) n s
    (λ k h y e. get_or-set_other y (p k) i (f k) (pos 0) (away k h) ∙ e) refl

stores_at : (p : ℕ → ℕ) (f : ℕ → ℤ) (n : ℕ) (s : List ℤ) (k : ℕ) → k < n → p k < length s → ((j : ℕ) → j < n → k < j → p k ≢ p j)
    → get_or (times n (λ k s. set s (p k) (f k)) s) (p k) (pos 0) ≡ f k
unfolding times
stores_at p f zero s k h l apart = absurd (omega arith)
stores_at p f (suc n) s k h l apart = ⊎_elim
    (λ (e : k ≡ n). rw e (get_or-set_same (times n (λ k s. set s (p k) (f k)) s) (p n) (f n) (pos 0) (rw (stores_length p f n s) (rw e at l))))
    (λ (q : k < n). get_or-set_other (times n (λ k s. set s (p k) (f k)) s) (p n) (p k) (f n) (pos 0) (apart n (omega arith) q)
    ∙ stores_at p f n s k q l (λ j hj. apart j (omega arith)))
    (eq-or-lt_of_le (omega arith))

-- ---- what `put` and `on` do to each place
pub set_line_length : (r : ℤ → ℤ) (start step n : ℕ) (t s : List ℤ) → length (set_line r start step n t s) ≡ length s
unfolding set_line
set_line_length r start step n t s = stores_length (λ k. start + k * step) (λ k. r (get_or t k (pos 0))) n s

module _ (T : List ℤ → List ℤ) (r : ℤ → ℤ) (start step n : ℕ) (s : List ℤ) where
  pub change_line_length : length (change_line T r start step n s) ≡ length s
  unfolding change_line
  change_line_length = set_line_length r start step n (T (line start step n s)) s

  pub change_line_other : (i : ℕ) → ((k : ℕ) → k < n → i ≢ start + k * step) → get_or (change_line T r start step n s) i (pos 0) ≡ get_or s i (pos 0)
  unfolding change_line set_line
  change_line_other i away = stores_other (λ k. start + k * step) (λ k. r (get_or (T (line start step n s)) k (pos 0))) n s i away

  pub change_line_at : (k : ℕ) → k < n → start + k * step < length s → ((j : ℕ) → j < n → k < j → start + k * step ≢ start + j * step)
      → get_or (change_line T r start step n s) (start + k * step) (pos 0) ≡ r (get_or (T (line start step n s)) k (pos 0))
  unfolding change_line set_line
  change_line_at k h l apart = stores_at (λ k. start + k * step) (λ k. r (get_or (T (line start step n s)) k (pos 0))) n s k h l apart
