-- Laws of counted loops: before the first turn, after one more, at the end; what every turn keeps.
use mathlib.Core.Path.{◌≡◌, refl, ap, ◌∙◌}
use Prim.Native.Nat.{ℕ, zero, suc, ◌+◌, ◌≤◌, ◌<◌}
use native.Mathlib.Nat.{le_antisymm}
use native.Mathlib.Numerals.{add-one}
use native.Mathlib.Omega.{arith}
use Rattle.whole.specs.Inner.{times}

pub times_none : {A : Type 0} (f : ℕ → A → A) (x : A) → x ≡ times 0 f x
unfolding times
times_none f x = refl

-- a turn: z is one more step after y, which is i steps after x
pub times_more : {A : Type 0} (f : ℕ → A → A) (i : ℕ) (x : A) {y z : A} → y ≡ times i f x → z ≡ f i y → z ≡ times (i + 1) f x
unfolding times
times_more f i x {y} {z} p q = q ∙ ap (f i) p ∙ rw add-one

-- the loop's end: i has come to n
pub times_done : {A : Type 0} (f : ℕ → A → A) (i n : ℕ) (x : A) {y : A} → i ≤ n → n ≤ i → y ≡ times i f x → y ≡ times n f x
times_done f i n x p q e = rw (le_antisymm q p) e

pub ruleset loops = (times_none, times_more, times_done)

-- what every step below n keeps, all of them keep
pub times_keeps : {A : Type 0} (P : A → Type 0) (f : ℕ → A → A) (n : ℕ) (x : A) → ((k : ℕ) → k < n → (y : A) → P y → P (f k y)) → P x → P (times n f x)
unfolding times
times_keeps P f zero x step p = p
times_keeps P f (suc n) x step p = step n (omega arith) (times n f x) (times_keeps P f n x (λ k h. step k (omega arith)) p)
