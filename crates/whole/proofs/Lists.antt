-- Laws of lists made by a rule.
use mathlib.Core.Path.{◌≡◌, refl, ap, ap₂, sym, ◌∙◌}
use mathlib.Core.List.{List, ◌∷◌}
use Prim.Native.Nat.{ℕ, zero, suc, ◌+◌, ◌≤◌, ◌<◌}
use native.Mathlib.Decide.{ℕ_discrete}
use native.Mathlib.Nat as NatL
use native.Mathlib.Numerals.{add-one}
use native.Mathlib.Omega.{arith}
use lib.ListN.{length, get_or, set, length-set}
use lib.Seq.{ext_get_or, get_or-set_same, get_or-set_other}
use Rattle.whole.specs.Lists.{tabulate, fill}

-- a loop that fills
pub fill_none : {A : Type 0} (g : ℕ → A) (u : List A) → u ≡ fill 0 g u
unfolding fill
fill_none g u = refl

pub fill_more : {A : Type 0} (g : ℕ → A) (u : List A) (i : ℕ) {y z : List A} → y ≡ fill i g u → z ≡ set y i (g i) → z ≡ fill (i + 1) g u
unfolding fill
fill_more g u i {y} {z} p q = q ∙ ap (λ l. set l i (g i)) p ∙ rw add-one

pub fill_done : {A : Type 0} (g : ℕ → A) (u : List A) (i n : ℕ) {y : List A} → i ≤ n → n ≤ i → y ≡ fill i g u → y ≡ fill n g u
fill_done g u i n p q e = rw (NatL.le_antisymm q p) e

pub length_tabulate : {A : Type 0} (f : ℕ → A) (n : ℕ) → length (tabulate f n) ≡ n
unfolding tabulate
length_tabulate f zero = refl
length_tabulate f (suc n) = ap suc (length_tabulate (λ k. f (suc k)) n)

pub get_d_tabulate : {A : Type 0} (f : ℕ → A) (n k : ℕ) (d : A) → k < n → get_or (tabulate f n) k d ≡ f k
unfolding tabulate
get_d_tabulate f zero k d h = absurd (omega arith)
get_d_tabulate f (suc n) zero d h = refl
get_d_tabulate f (suc n) (suc k) d h = get_d_tabulate (λ j. f (suc j)) n k d (omega arith)

-- a list by its length and its elements
pub tabulate_is : {A : Type 0} (d : A) (f : ℕ → A) (l : List A) (n : ℕ) → length l ≡ n → ((k : ℕ) → k < n → get_or l k d ≡ f k) → l ≡ tabulate f n
tabulate_is d f l n e h =
    ext_get_or d l (tabulate f n) (e ∙ sym (length_tabulate f n)) (λ k q. h k (omega arith) ∙ sym (get_d_tabulate f n k d (omega arith)))

-- what stands where after a loop that fills
pub length_fill : {A : Type 0} (k : ℕ) (g : ℕ → A) (u : List A) → length (fill k g u) ≡ length u
unfolding fill
length_fill zero g u = refl
length_fill (suc k) g u = length-set (fill k g u) k (g k) ∙ length_fill k g u

pub fill_rest : {A : Type 0} (d : A) (k : ℕ) (g : ℕ → A) (u : List A) (j : ℕ) → k ≤ j → get_or (fill k g u) j d ≡ get_or u j d
unfolding fill
fill_rest d zero g u j h = refl
fill_rest d (suc k) g u j h =
    get_or-set_other (fill k g u) k j (g k) d (λ (e : j ≡ k). absurd (omega arith)) ∙ fill_rest d k g u j (omega arith)

pub fill_below : {A : Type 0} (d : A) (k : ℕ) (g : ℕ → A) (u : List A) (j : ℕ) → j < k → j < length u → get_or (fill k g u) j d ≡ g j
unfolding fill
fill_below d zero g u j h l = absurd (omega arith)
fill_below d (suc k) g u j h l = go (λ q. fill_below d k g u j q l) (ℕ_discrete j k)
  where
    go : (j < k → get_or (fill k g u) j d ≡ g j) → Dec (j ≡ k) → get_or (set (fill k g u) k (g k)) j d ≡ g j
    go before (yes e) = rw e (get_or-set_same (fill k g u) k (g k) d (omega (arith, length_fill k g u)))
    go before (no ne) = get_or-set_other (fill k g u) k j (g k) d ne ∙ before (omega arith)

-- filled to the end
pub fill_all : {A : Type 0} (d : A) (g : ℕ → A) (u : List A) → fill (length u) g u ≡ tabulate g (length u)
fill_all d g u =
    tabulate_is d g (fill (length u) g u) (length u) (length_fill (length u) g u) (λ k h. fill_below d (length u) g u k h h)

-- the same elements
pub tabulate_same : {A : Type 0} (f g : ℕ → A) (n : ℕ) → ((k : ℕ) → k < n → f k ≡ g k) → tabulate f n ≡ tabulate g n
unfolding tabulate
tabulate_same f g zero h = refl
tabulate_same f g (suc n) h = ap₂ ◌∷◌ (h 0 (omega arith)) (tabulate_same (λ k. f (suc k)) (λ k. g (suc k)) n (λ k l. h (suc k) (omega arith)))
