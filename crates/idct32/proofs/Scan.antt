-- `every` and `shorts`, place by place: as a loop builds them up, what they say of each place, and when one place is enough.
use mathlib.Core.Path.{◌≡◌, refl, sym, ◌∙◌}
use mathlib.Core.Bool.{Bool, true, false, ◌&&◌}
use mathlib.Core.List.{List}
use mathlib.Core.Logic.{⊎_elim}
use Prim.Native.Nat.{ℕ, zero, suc, ◌+◌, ◌<◌}
use native.Mathlib.Nat.{eq-or-lt_of_le}
use native.Mathlib.Numerals.{add-one}
use native.Mathlib.Omega.{arith}
use lib.IntN.{ℤ, pos}
use lib.ListN.{get_or}
use Rattle.narrow.specs.Kept.{short, shorts}
use Rattle.idct32.specs.Engine.{every}

pub never : {A : Type 0} → false ≡ true → A
never h = absurd (let z : ◌≡◌ {A = ℕ} 0 1 = cc in omega arith)

-- both of `&&`
pub and_left : (a b : Bool) → a && b ≡ true → a ≡ true
and_left true b e = refl
and_left false b e = e

pub and_right : (a b : Bool) → a && b ≡ true → b ≡ true
and_right true b e = e
and_right false b e = cc

pub and_no : (a b : Bool) → b ≡ false → a && b ≡ false
and_no true b e = e
and_no false b e = refl

-- a test that cannot hold fails
pub fails : (b : Bool) → (b ≡ true → b ≡ false) → b ≡ false
fails true f = f refl
fails false f = refl

-- ---- `every`
pub every_none : (p : ℕ → Bool) → every p 0 ≡ true
unfolding every
every_none p = refl

pub every_more : (p : ℕ → Bool) (i : ℕ) → every p i ≡ true → p i ≡ true → every p (i + 1) ≡ true
unfolding every
every_more p i h e = rw (add-one, e) h

pub every_fails : (p : ℕ → Bool) (n k : ℕ) → k < n → p k ≡ false → every p n ≡ false
unfolding every
every_fails p zero k l e = absurd (omega arith)
every_fails p (suc n) k l e = ⊎_elim
    (λ (q : k ≡ n). let f : p n ≡ false = cc in rw f)
    (λ (q : k < n). and_no (p n) (every p n) (every_fails p n k q e))
    (eq-or-lt_of_le (omega arith))

pub every_all : (p : ℕ → Bool) (n : ℕ) → ((k : ℕ) → k < n → p k ≡ true) → every p n ≡ true
unfolding every
every_all p zero f = refl
every_all p (suc n) f = rw (f n (omega arith)) (every_all p n (λ k l. f k (omega arith)))

pub every_at : (p : ℕ → Bool) (n k : ℕ) → every p n ≡ true → k < n → p k ≡ true
unfolding every
every_at p zero k h l = absurd (omega arith)
every_at p (suc n) k h l = ⊎_elim
    (λ (q : k ≡ n). let f : p n ≡ true = and_left (p n) (every p n) h in cc)
    (λ (q : k < n). every_at p n k (and_right (p n) (every p n) h) q)
    (eq-or-lt_of_le (omega arith))

pub every_same : (p q : ℕ → Bool) (n : ℕ) → ((k : ℕ) → k < n → p k ≡ q k) → every p n ≡ every q n
unfolding every
every_same p q zero f = refl
every_same p q (suc n) f = rw (f n (omega arith), every_same p q n (λ k l. f k (omega arith)))

-- ---- `shorts` is such a test
shorts_every : (n : ℕ) (t : List ℤ) → shorts n t ≡ every (λ k. short (get_or t k (pos 0))) n
unfolding shorts every
shorts_every zero t = refl
shorts_every (suc n) t = rw (shorts_every n t)

pub shorts_none : (t : List ℤ) → shorts 0 t ≡ true
unfolding shorts
shorts_none t = refl

pub shorts_next : (i : ℕ) (t : List ℤ) → shorts (i + 1) t ≡ short (get_or t i (pos 0)) && shorts i t
unfolding shorts
shorts_next i t = rw add-one

pub shorts_more : (i : ℕ) (t : List ℤ) → shorts i t ≡ true → short (get_or t i (pos 0)) ≡ true → shorts (i + 1) t ≡ true
unfolding shorts
shorts_more i t h e = rw (add-one, e) h

pub shorts_fails : (n : ℕ) (t : List ℤ) (k : ℕ) → k < n → short (get_or t k (pos 0)) ≡ false → shorts n t ≡ false
shorts_fails n t k l e = shorts_every n t ∙ every_fails (λ k. short (get_or t k (pos 0))) n k l e

pub shorts_all : (n : ℕ) (t : List ℤ) → ((k : ℕ) → k < n → short (get_or t k (pos 0)) ≡ true) → shorts n t ≡ true
shorts_all n t f = shorts_every n t ∙ every_all (λ k. short (get_or t k (pos 0))) n f

pub shorts_at : (n : ℕ) (t : List ℤ) (k : ℕ) → shorts n t ≡ true → k < n → short (get_or t k (pos 0)) ≡ true
shorts_at n t k h l = every_at (λ k. short (get_or t k (pos 0))) n k (sym (shorts_every n t) ∙ h) l
