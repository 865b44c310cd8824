-- Laws of the classes: every magnitude is of one class and of no other; what tokens add to their classes.
use mathlib.Core.Path.{◌≡◌, refl, ap, ◌∙◌}
use mathlib.Core.Bool.{Bool, true, false, cond, ◌&&◌, ◌||◌}
use mathlib.Core.List.{List}
use mathlib.Core.Logic.{◌⊎◌, inl, inr}
use Prim.Native.Nat.{ℕ, zero, suc, ◌+◌, ◌*◌, ◌≤◌, ◌<◌}
use native.Mathlib.Decide.{dec_lt, ℕ_discrete}
use native.Mathlib.Nat as NatL
use native.Mathlib.Numerals.{add-one}
use native.Mathlib.Omega.{arith}
use borrow.Author.Tests.{le-leb, lt-leb, lt-ltb, le-ltb, ltb-true, eq-eqb, ne_eqb}
use lib.Dec.{leb, ltb, eqb, leb→le, eqb→eq}
use lib.IntN.{ℤ, pos, nat_abs}
use lib.ListN.{get_or}
use Rattle.whole.proofs.Tests.{below}
use Rattle.report.specs.Classes.{CLASSES, least, in_class, sum_below, share, shares, one}
use Rattle.report.specs.Inner.{edges, IsClass}

-- the leasts rise
rise_one : (c : ℕ) → c < 10 → least c ≤ least (suc c)
rise_one c h = leb→le (least c) (least (suc c)) (below 10 (λ c. leb (least c) (least (suc c))) tt c h)

rise : (c d : ℕ) → c ≤ d → d < 11 → least c ≤ least d
rise c zero l h = let e : c ≡ 0 = omega arith in NatL.le_of_eq (ap least e)
rise c (suc d) l h = go (λ q. rise c d q (omega arith)) (NatL.eq-or-lt_of_le l)
  where
    go : (c ≤ d → least c ≤ least d) → (c ≡ suc d) ⊎ (c < suc d) → least c ≤ least (suc d)
    go f (inl e) = NatL.le_of_eq (ap least e)
    go f (inr q) = NatL.le_trans (f (omega arith)) (rise_one d (omega arith))

-- a class by its bounds, and the bounds of a class
by_bounds : (c m : ℕ) → c < 10 → least c ≤ m → m < least (suc c) → in_class c m ≡ true
unfolding in_class
by_bounds c m h l u = rw (le-leb (least c) m l, ne_eqb c 10 (λ (e : c ≡ 10). absurd (omega arith)), lt-ltb m (least (suc c)) u)

last_class : (m : ℕ) → 67 ≤ m → in_class 10 m ≡ true
unfolding in_class
last_class m l = rw (le-leb 67 m l)

and_right : (a b : Bool) → a && b ≡ true → b ≡ true
and_right true b h = h
and_right false b h = cc

from : (c m : ℕ) → in_class c m ≡ true → least c ≤ m
unfolding in_class
from c m h = go (dec_lt m (least c))
  where
    go : Dec (m < least c) → least c ≤ m
    go (yes l) = absurd (let z : ◌≡◌ {A = ℕ} 0 1 = cc (rw (lt-leb (least c) m l) at h) in omega arith)
    go (no l) = omega arith

to : (c m : ℕ) → c < 10 → in_class c m ≡ true → m < least (suc c)
unfolding in_class
to c m l h =
    ltb-true m (least (suc c)) (rw (ne_eqb c 10 (λ (e : c ≡ 10). absurd (omega arith))) at (and_right (leb (least c) m) (eqb c 10 || ltb m (least (suc c))) h))

-- the edges are the leasts
edge : (c : ℕ) → c < 11 → get_or edges c 0 ≡ least c
edge c h = eqb→eq (get_or edges c 0) (least c) (below 11 (λ c. eqb (get_or edges c 0) (least c)) tt c h)

-- a class by its edges is one by its bounds
bounds : (m c : ℕ) → IsClass m c → in_class c m ≡ true
bounds m c i = go (dec_lt c 10)
  where
    go : Dec (c < 10) → in_class c m ≡ true
    go (yes l) = by_bounds c m l (rw (edge c i.known) at i.from) (rw (edge (suc c) (omega arith)) at i.below)
    go (no l) = let e : c ≡ 10 = omega (arith, i.known) in rw e (last_class m (rw e at i.from))

-- no magnitude is of two classes
one_class : (m c d : ℕ) → IsClass m c → in_class d m ≡ true → d < CLASSES → d ≡ c
one_class m c d i h l = go (dec_lt d c) (dec_lt c d)
  where
    go : Dec (d < c) → Dec (c < d) → d ≡ c
    go (yes p) q = absurd (omega (arith, to d m (omega (arith, i.known)) h, rise (suc d) c p i.known, from c m (bounds m c i)))
    go (no p) (yes q) = absurd (omega (arith, to c m (omega arith) (bounds m c i), rise (suc c) d q l, from d m h))
    go (no p) (no q) = omega arith

other_class : (m c d : ℕ) → IsClass m c → d < CLASSES → (d ≡ c → ⊥) → in_class d m ≡ false
other_class m c d i l ne = go (in_class d m) refl
  where
    go : (b : Bool) → in_class d m ≡ b → b ≡ false
    go true e = absurd (ne (one_class m c d i e l))
    go false e = refl

pub zero_class : IsClass 0 0
zero_class =
    let a : 0 ≤ 0 = omega arith in
    let b : 0 < 1 = omega arith in
    record { known = omega arith; from = a; below = b }

-- ---- what a token adds
pub share_is : (f : ℕ → ℕ) (c d : ℕ) (t : ℤ) → IsClass (nat_abs t) c → d < CLASSES → share f d t ≡ cond (eqb d c) (f (nat_abs t)) 0
unfolding share
share_is f c d t i l = go (ℕ_discrete d c)
  where
    go : Dec (d ≡ c) → cond (in_class d (nat_abs t)) (f (nat_abs t)) 0 ≡ cond (eqb d c) (f (nat_abs t)) 0
    go (yes e) = rw (e, bounds (nat_abs t) c i, eq-eqb c c refl)
    go (no ne) = rw (other_class (nat_abs t) c d i l ne, ne_eqb d c ne)

share_most : (f : ℕ → ℕ) (c b : ℕ) (t : ℤ) → f (nat_abs t) ≤ b → share f c t ≤ b
unfolding share
share_most f c b t h = go (in_class c (nat_abs t))
  where
    go : (x : Bool) → cond x (f (nat_abs t)) 0 ≤ b
    go true = h
    go false = omega arith

-- ---- what tokens add
pub shares_none : (f : ℕ → ℕ) (c : ℕ) (tokens : List ℤ) → shares f c 0 tokens ≡ 0
unfolding shares sum_below
shares_none f c tokens = refl

pub shares_more : (f : ℕ → ℕ) (c n : ℕ) (tokens : List ℤ) → shares f c (n + 1) tokens ≡ shares f c n tokens + share f c (get_or tokens n (pos 0))
unfolding shares sum_below
shares_more f c n tokens = rw (add-one n)

pub shares_grow : (f : ℕ → ℕ) (c b start n : ℕ) (tokens : List ℤ) → ((i : ℕ) → i < n → f (nat_abs (get_or tokens (start + i) (pos 0))) ≤ b)
    → shares f c (start + n) tokens ≤ shares f c start tokens + n * b
shares_grow f c b start zero tokens h = let e : start + 0 ≡ start = omega arith in rw e (omega arith)
shares_grow f c b start (suc n) tokens h =
    let e : start + suc n ≡ start + n + 1 = omega arith in
    let g = shares_grow f c b start n tokens (λ i l. h i (omega arith)) in
    let m : suc n * b ≡ n * b + b = omega (arith, NatL.add-mul n 1 b, add-one n) in
    rw e (omega (arith, shares_more f c (start + n) tokens, g, share_most f c b (get_or tokens (start + n) (pos 0)) (h n (omega arith)), m))

-- zeros in a row
pub shares_zeros : (f : ℕ → ℕ) (c start n : ℕ) (tokens : List ℤ) → ((i : ℕ) → i < n → get_or tokens (start + i) (pos 0) ≡ pos 0)
    → shares f c (start + n) tokens ≡ shares f c start tokens + n * share f c (pos 0)
shares_zeros f c start zero tokens h = let e : start + 0 ≡ start = omega arith in rw e (omega arith)
shares_zeros f c start (suc n) tokens h =
    let e : start + suc n ≡ start + n + 1 = omega arith in
    let s = share f c (pos 0) in
    let m : suc n * s ≡ n * s + s = omega (arith, NatL.add-mul n 1 s, add-one n) in
    rw e (omega (arith, shares_more f c (start + n) tokens, rw (h n (omega arith)) at (shares_more f c (start + n) tokens), shares_zeros f c start n tokens (λ i l. h i (omega arith)), m))

-- ---- every magnitude is of one class: the classes' shares of a token are one in all
reached : ℕ → ℕ → ℕ
reached m c = cond (leb (least c) m) 1 0

-- class c's share and what reaches the next class are what reaches class c
step : (m c : ℕ) → c < 10 → cond (in_class c m) 1 0 + reached m (suc c) ≡ reached m c
unfolding in_class reached
step m c l = rw (ne_eqb c 10 (λ (e : c ≡ 10). absurd (omega arith))) (go (dec_lt m (least (suc c))))
  where
    go : Dec (m < least (suc c)) → cond (leb (least c) m && ltb m (least (suc c))) 1 0 + cond (leb (least (suc c)) m) 1 0 ≡ cond (leb (least c) m) 1 0
    go (yes p) = rw (lt-ltb m (least (suc c)) p, lt-leb (least (suc c)) m p) (still (leb (least c) m))
      where
        still : (b : Bool) → cond (b && true) 1 0 + 0 ≡ cond b 1 0
        still true = refl
        still false = refl
    go (no p) =
        rw (le-ltb m (least (suc c)) (omega arith), le-leb (least (suc c)) m (omega arith), le-leb (least c) m (omega (arith, rise_one c l))) refl

upto : (t : ℤ) (j : ℕ) → j ≤ 10 → sum_below (λ c. share one c t) j + reached (nat_abs t) j ≡ 1
unfolding sum_below share reached
upto t zero l = rw (le-leb 0 (nat_abs t) (omega arith))
upto t (suc j) l =
    omega (arith, upto t j (omega arith), step (nat_abs t) j (omega arith))

all_shares : (t : ℤ) → sum_below (λ c. share one c t) 11 ≡ 1
unfolding sum_below share reached in_class
all_shares t = omega (arith, upto t 10 (omega arith), last (leb 67 (nat_abs t)))
  where
    last : (b : Bool) → ◌≡◌ {A = ℕ} (cond (b && true) 1 0) (cond b 1 0)
    last true = refl
    last false = refl

-- a sum of sums
pub sum_plus : (f g : ℕ → ℕ) (n : ℕ) → sum_below (λ c. f c + g c) n ≡ sum_below f n + sum_below g n
unfolding sum_below
sum_plus f g zero = refl
sum_plus f g (suc n) = omega (arith, sum_plus f g n)

pub sum_same : (f g : ℕ → ℕ) (n : ℕ) → ((c : ℕ) → c < n → f c ≡ g c) → sum_below f n ≡ sum_below g n
unfolding sum_below
sum_same f g zero h = refl
sum_same f g (suc n) h = omega (arith, sum_same f g n (λ c l. h c (omega arith)), h n (omega arith))

pub sum_zero : (n : ℕ) → sum_below (λ c. 0) n ≡ 0
unfolding sum_below
sum_zero zero = refl
sum_zero (suc n) = omega (arith, sum_zero n)

-- n tokens are n in all classes
pub all_counted : (n : ℕ) (tokens : List ℤ) → sum_below (λ c. shares one c n tokens) 11 ≡ n
all_counted zero tokens = sum_same _ (λ c. 0) 11 (λ c l. shares_none one c tokens) ∙ sum_zero 11
all_counted (suc n) tokens =
    sum_same _ (λ c. shares one c n tokens + share one c (get_or tokens n (pos 0))) 11 (λ c l. rw (add-one n) at (shares_more one c n tokens))
    ∙ sum_plus _ _ 11
    ∙ omega (arith, all_counted n tokens, all_shares (get_or tokens n (pos 0)))

-- a part of a sum
pub sum_part : (f : ℕ → ℕ) (n k : ℕ) → k < n → f k ≤ sum_below f n
unfolding sum_below
sum_part f zero k l = absurd (omega arith)
sum_part f (suc n) k l = go (sum_part f n k) (NatL.eq-or-lt_of_le (NatL.le_of_suc-le-suc l))
  where
    go : (k < n → f k ≤ sum_below f n) → (k ≡ n) ⊎ (k < n) → f k ≤ sum_below f n + f n
    go g (inl e) = let q : f k ≡ f n = ap f e in omega arith
    go g (inr q) = omega (arith, g q)
