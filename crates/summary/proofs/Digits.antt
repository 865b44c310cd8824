-- A number by its binary digits, the lowest first, as the machine's counts are stated: how many are set, the first, the last, and one digit's change.
use mathlib.Core.Path.{◌≡◌, refl, sym, ap, ap₂, ◌∙◌, subst}
use mathlib.Core.Bool.{Bool, true, false, cond}
use Prim.Native.Nat.{ℕ, zero, suc, min, max, ◌+◌, ◌-◌, ◌*◌, ◌/◌, ◌%◌, ◌^◌, ◌≤◌, ◌<◌}
use native.Mathlib.Nat as NatL
use native.Mathlib.Omega.{arith}
use borrow.Author.Tests.{eq-eqb, ne_eqb}
use lib.Bits.{bit_and, bit_or, and_step, or_step, or_zero_r, and_mask}
use lib.Count.{ones, ones_step, count_leading_zeros, count_trailing_zeros, under}
use lib.Dec.{eqb}
use lib.Pow.{pow_mono, pow_pos, pow-lt}
use Rattle.summary.specs.Summary.{is_set}

abbrev pub digit : Bool → ℕ
digit true = 1
digit false = 0

-- the number whose digits are p i, p (i + 1), .., n of them
unfoldable pub digits : (ℕ → Bool) → ℕ → ℕ → ℕ
digits p i zero = 0
digits p i (suc n) = digit (p i) + 2 * digits p (suc i) n

-- how many of them are set
unfoldable pub count : (ℕ → Bool) → ℕ → ℕ → ℕ
count p i zero = 0
count p i (suc n) = digit (p i) + count p (suc i) n

-- how many stand before the first that is set: n where none is
unfoldable pub before : (ℕ → Bool) → ℕ → ℕ → ℕ
before p i zero = 0
before p i (suc n) = cond (p i) 0 (suc (before p (suc i) n))

-- one more than the place of the last that is set: 0 where none is
abbrev on_top : Bool → ℕ → ℕ
on_top b zero = digit b
on_top b (suc r) = suc (suc r)

unfoldable pub past : (ℕ → Bool) → ℕ → ℕ → ℕ
past p i zero = 0
past p i (suc n) = on_top (p i) (past p (suc i) n)

-- ---- the lowest digit and the rest
low : (b : Bool) (x : ℕ) → (digit b + 2 * x) % 2 ≡ digit b
low true x = omega arith
low false x = omega arith

rest : (b : Bool) (x : ℕ) → (digit b + 2 * x) / 2 ≡ x
rest true x = omega arith
rest false x = omega arith

-- ---- the machine's counts
pub ones_digits : (p : ℕ → Bool) (i n : ℕ) → ones (digits p i n) ≡ count p i n
unfolding digits count ones lib.Count.ones_in
ones_digits p i zero = refl
ones_digits p i (suc n) =
    let x = digits p (suc i) n in
    ones_step (digit (p i) + 2 * x) ∙ ap₂ (λ (u v : ℕ). u + ones v) (low (p i) x) (rest (p i) x) ∙ ap (λ (u : ℕ). digit (p i) + u) (ones_digits p (suc i) n)

under_cond : (b : Bool) (t : ℕ) → under (digit b) t ≡ cond b 0 (suc t)
under_cond true t = refl
under_cond false t = refl

pub trailing_digits : (p : ℕ → Bool) (i n : ℕ) → count_trailing_zeros n (digits p i n) ≡ before p i n
unfolding digits before count_trailing_zeros
trailing_digits p i zero = refl
trailing_digits p i (suc n) =
    let x = digits p (suc i) n in
    ap₂ (λ (u v : ℕ). under u (count_trailing_zeros n v)) (low (p i) x) (rest (p i) x)
    ∙ ap (under (digit (p i))) (trailing_digits p (suc i) n) ∙ under_cond (p i) (before p (suc i) n)

leading_suc : (k m : ℕ) → 0 < m → count_leading_zeros (suc k) m ≡ count_leading_zeros k (m / 2)
unfolding count_leading_zeros
leading_suc k zero h = absurd (omega arith)
leading_suc k (suc m) h = refl

on_zero : (b : Bool) (r : ℕ) → r ≡ 0 → on_top b r ≡ digit b
on_zero b zero h = refl
on_zero b (suc r) h = absurd (omega arith)

on_pos : (b : Bool) (r : ℕ) → 0 < r → on_top b r ≡ suc r
on_pos b zero h = absurd (omega arith)
on_pos b (suc r) h = refl

-- the leading zeros and the digits up to the highest that is set make n, and both 0s agree
top_step : (b : Bool) (n x r : ℕ) → (x ≡ 0 → r ≡ 0) → (0 < x → 0 < r) → count_leading_zeros n x + r ≡ n
    → count_leading_zeros (suc n) (digit b + 2 * x) + on_top b r ≡ suc n
unfolding count_leading_zeros
top_step true n zero r f g h = rw (on_zero true r (f refl), leading_suc n 1 (omega arith)) (let z = f refl in omega arith)
top_step false n zero r f g h = rw (on_zero false r (f refl)) (omega arith)
top_step b n (suc x) r f g h =
    rw (on_pos b r (g (omega arith)), leading_suc n (digit b + 2 * suc x) (omega arith), rest b (suc x)) (omega arith)

zero_step : (b : Bool) (x r : ℕ) → (x ≡ 0 → r ≡ 0) → digit b + 2 * x ≡ 0 → on_top b r ≡ 0
zero_step true x r f e = absurd (omega arith)
zero_step false x r f e = on_zero false r (f (omega arith))

pos_step : (b : Bool) (x r : ℕ) → (0 < x → 0 < r) → 0 < digit b + 2 * x → 0 < on_top b r
pos_step b x (suc r) f h = omega arith
pos_step true x zero f h = omega arith
pos_step false zero zero f h = h
pos_step false (suc x) zero f h = f (omega arith)

past_zero : (p : ℕ → Bool) (i n : ℕ) → digits p i n ≡ 0 → past p i n ≡ 0
unfolding digits past
past_zero p i zero h = refl
past_zero p i (suc n) h = zero_step (p i) (digits p (suc i) n) (past p (suc i) n) (past_zero p (suc i) n) h

pub past_pos : (p : ℕ → Bool) (i n : ℕ) → 0 < digits p i n → 0 < past p i n
unfolding digits past
past_pos p i zero h = h
past_pos p i (suc n) h = pos_step (p i) (digits p (suc i) n) (past p (suc i) n) (past_pos p (suc i) n) h

pub leading_digits : (p : ℕ → Bool) (i n : ℕ) → count_leading_zeros n (digits p i n) + past p i n ≡ n
unfolding digits past count_leading_zeros
leading_digits p i zero = refl
leading_digits p i (suc n) =
    top_step (p i) n (digits p (suc i) n) (past p (suc i) n) (past_zero p (suc i) n) (past_pos p (suc i) n) (leading_digits p (suc i) n)

-- ---- the number's size, and its digit at the top
pub digits_lt : (p : ℕ → Bool) (i n : ℕ) → digits p i n < 2 ^ n
unfolding digits
digits_lt p i zero = omega arith
digits_lt p i (suc n) = go (p i) (digits p (suc i) n) (digits_lt p (suc i) n)
  where
    go : (b : Bool) (x : ℕ) → x < 2 ^ n → digit b + 2 * x < 2 ^ suc n
    go true x h = omega (arith, NatL.pow-suc 2 n)
    go false x h = omega (arith, NatL.pow-suc 2 n)

pub digits_top : (p : ℕ → Bool) (i n : ℕ) → digits p i (suc n) ≡ digits p i n + digit (p (i + n)) * 2 ^ n
unfolding digits
digits_top p i zero = let e : i + 0 ≡ i = omega arith in rw e (omega arith)
digits_top p i (suc n) =
    let e : suc i + n ≡ i + suc n = omega arith in
    let h = rw e at (digits_top p (suc i) n) in
    omega (arith, h, ap (λ (x : ℕ). digit (p (i + suc n)) * x) (NatL.pow-suc 2 n))

pub count_top : (p : ℕ → Bool) (i n : ℕ) → count p i (suc n) ≡ count p i n + digit (p (i + n))
unfolding count
count_top p i zero = let e : i + 0 ≡ i = omega arith in rw e (omega arith)
count_top p i (suc n) = let e : suc i + n ≡ i + suc n = omega arith in omega (arith, rw e at (count_top p (suc i) n))

-- ---- one digit's change
abbrev pub upd : (ℕ → Bool) → ℕ → Bool → ℕ → Bool
upd p j b k = cond (eqb k j) b (p k)

-- the same digits, the same number
pub digits_ext : (p q : ℕ → Bool) (i n : ℕ) → ((k : ℕ) → i ≤ k → k < i + n → p k ≡ q k) → digits p i n ≡ digits q i n
unfolding digits
digits_ext p q i zero h = refl
digits_ext p q i (suc n) h =
    ap₂ (λ (b : Bool) (x : ℕ). digit b + 2 * x) (h i (omega arith) (omega arith)) (digits_ext p q (suc i) n (λ k l m. h k (omega arith) (omega arith)))

same : (k : ℕ) → eqb k k ≡ true
same k = eq-eqb k k refl

pub upd_here : (p : ℕ → Bool) (j : ℕ) (b : Bool) → upd p j b j ≡ b
upd_here p j b = rw (same j)

pub upd_other : (p : ℕ → Bool) (j : ℕ) (b : Bool) (k : ℕ) → (k ≡ j → ⊥) → upd p j b k ≡ p k
upd_other p j b k h = rw (ne_eqb k j h)

-- the digits above are untouched
upd_above : (p : ℕ → Bool) (i n : ℕ) (b : Bool) → digits (upd p i b) (suc i) n ≡ digits p (suc i) n
upd_above p i n b = digits_ext (upd p i b) p (suc i) n (λ k l m. upd_other p i b k (λ e. omega arith))

or_pair : (b : Bool) (x c y : ℕ) → c < 2 → bit_or (digit b + 2 * x) (c + 2 * y) ≡ max (digit b) c + 2 * bit_or x y
or_pair b x c y h =
    let e : (c + 2 * y) / 2 ≡ y = omega arith in
    let f : (c + 2 * y) % 2 ≡ c = omega arith in
    or_step (digit b + 2 * x) (c + 2 * y) ∙ rw (rest b x, low b x, e, f) (omega arith)

and_pair : (b : Bool) (x c y : ℕ) → c < 2 → bit_and (digit b + 2 * x) (c + 2 * y) ≡ min (digit b) c + 2 * bit_and x y
and_pair b x c y h =
    let e : (c + 2 * y) / 2 ≡ y = omega arith in
    let f : (c + 2 * y) % 2 ≡ c = omega arith in
    and_step (digit b + 2 * x) (c + 2 * y) ∙ rw (rest b x, low b x, e, f) (omega arith)

max_one : (b : Bool) → max (digit b) 1 ≡ 1
max_one true = refl
max_one false = refl

max_none : (b : Bool) → max (digit b) 0 ≡ digit b
max_none true = refl
max_none false = refl

min_one : (b : Bool) → min (digit b) 1 ≡ digit b
min_one true = refl
min_one false = refl

min_none : (b : Bool) → min (digit b) 0 ≡ 0
min_none true = refl
min_none false = refl

-- m | (1 << j)
pub or_set : (p : ℕ → Bool) (i n j : ℕ) → j < n → bit_or (digits p i n) (2 ^ j) ≡ digits (upd p (i + j) true) i n
unfolding digits
or_set p i zero j h = absurd (omega arith)
or_set p i (suc n) zero h =
    let e : i ≡ i + 0 = omega arith in
    subst (λ (k : ℕ). bit_or (digits p i (suc n)) (2 ^ 0) ≡ digits (upd p k true) i (suc n)) e
    (rw (upd_here p i true, upd_above p i n true)
    (or_pair (p i) (digits p (suc i) n) 1 0 (omega arith) ∙ rw (max_one (p i), or_zero_r (digits p (suc i) n))))
or_set p i (suc n) (suc j) h =
    let e : suc i + j ≡ i + suc j = omega arith in
    let w : 2 ^ suc j ≡ 0 + 2 * 2 ^ j = omega (arith, NatL.pow-suc 2 j) in
    rw (w, upd_other p (i + suc j) true i (λ e. omega arith))
    (or_pair (p i) (digits p (suc i) n) 0 (2 ^ j) (omega arith)
    ∙ rw (max_none (p i)) (ap (λ (x : ℕ). digit (p i) + 2 * x) (rw e at (or_set p (suc i) n j (omega arith)))))

-- m & !(1 << j), at n digits
pub and_clear : (p : ℕ → Bool) (i n j : ℕ) → j < n → bit_and (digits p i n) ((2 ^ n - 1) - 2 ^ j) ≡ digits (upd p (i + j) false) i n
unfolding digits
and_clear p i zero j h = absurd (omega arith)
and_clear p i (suc n) zero h =
    let e : i ≡ i + 0 = omega arith in
    let l = pow_pos n in
    let w : (2 ^ suc n - 1) - 1 ≡ 0 + 2 * (2 ^ n - 1) = omega (arith, NatL.pow-suc 2 n) in
    subst (λ (k : ℕ). bit_and (digits p i (suc n)) ((2 ^ suc n - 1) - 2 ^ 0) ≡ digits (upd p k false) i (suc n)) e
    (rw (w, upd_here p i false, upd_above p i n false)
    (and_pair (p i) (digits p (suc i) n) 0 (2 ^ n - 1) (omega arith)
    ∙ rw (min_none (p i), and_mask (digits p (suc i) n) n, NatL.mod-eq_of_lt (digits_lt p (suc i) n))))
and_clear p i (suc n) (suc j) h =
    let e : suc i + j ≡ i + suc j = omega arith in
    let l : 2 ^ suc j ≤ 2 ^ n = pow_mono (omega arith) in
    let w : (2 ^ suc n - 1) - 2 ^ suc j ≡ 1 + 2 * ((2 ^ n - 1) - 2 ^ j) = omega (arith, NatL.pow-suc 2 n, NatL.pow-suc 2 j, pow_pos j) in
    rw (w, upd_other p (i + suc j) false i (λ e. omega arith))
    (and_pair (p i) (digits p (suc i) n) 1 ((2 ^ n - 1) - 2 ^ j) (omega arith)
    ∙ rw (min_one (p i)) (ap (λ (x : ℕ). digit (p i) + 2 * x) (rw e at (and_clear p (suc i) n j (omega arith)))))

-- ---- the digit at a place, and a number as its digits
digit_test : (b : Bool) → eqb (digit b) 1 ≡ b
digit_test true = refl
digit_test false = refl

place : (p : ℕ → Bool) (i n j : ℕ) → j < n → digits p i n / 2 ^ j % 2 ≡ digit (p (i + j))
unfolding digits
place p i zero j h = absurd (omega arith)
place p i (suc n) zero h = let e : i + 0 ≡ i = omega arith in rw (e, NatL.div-one) (low (p i) (digits p (suc i) n))
place p i (suc n) (suc j) h =
    let e : suc i + j ≡ i + suc j = omega arith in
    let w : 2 ^ suc j ≡ 2 * 2 ^ j = omega (arith, NatL.pow-suc 2 j) in
    rw (w, ← NatL.div-div-eq-div-mul (digit (p i) + 2 * digits p (suc i) n) 2 (2 ^ j), rest (p i) (digits p (suc i) n)) (rw e at (place p (suc i) n j (omega arith)))

pub set_digits : (p : ℕ → Bool) (n j : ℕ) → j < n → is_set (digits p 0 n) j ≡ p j
unfolding is_set
set_digits p n j h = rw (place p 0 n j h, NatL.zero-add j) (digit_test (p j))

-- no bit is set at or past the number's end
pub set_past : (m n j : ℕ) → m < 2 ^ n → n ≤ j → is_set m j ≡ false
unfolding is_set
set_past m n j h l =
    let g : 2 ^ n ≤ 2 ^ j = pow_mono l in
    let q : m < 2 ^ j = omega arith in
    rw (NatL.div-eq_of_lt q)

set_zero : (m : ℕ) → digit (is_set m 0) ≡ m % 2
unfolding is_set
set_zero m = rw (NatL.div-one m) (go (m % 2) (omega arith))
  where
    go : (x : ℕ) → x < 2 → digit (eqb x 1) ≡ x
    go zero h = refl
    go (suc zero) h = refl
    go (suc (suc x)) h = absurd (omega arith)

set_suc : (m k : ℕ) → is_set m (suc k) ≡ is_set (m / 2) k
unfolding is_set
set_suc m k =
    let w : 2 ^ suc k ≡ 2 * 2 ^ k = omega (arith, NatL.pow-suc 2 k) in
    rw (w, ← NatL.div-div-eq-div-mul m 2 (2 ^ k))

own : (p : ℕ → Bool) (i n m : ℕ) → m < 2 ^ n → ((k : ℕ) → p (i + k) ≡ is_set m k) → digits p i n ≡ m
unfolding digits
own p i zero m h f = omega arith
own p i (suc n) m h f =
    let e : i + 0 ≡ i = omega arith in
    let a : digit (p i) ≡ m % 2 = ap digit (rw e at (f 0)) ∙ set_zero m in
    let b : digits p (suc i) n ≡ m / 2 = own p (suc i) n (m / 2) (omega (arith, NatL.pow-suc 2 n))
    (λ k. let q : suc i + k ≡ i + suc k = omega arith in rw q (f (suc k) ∙ set_suc m k)) in
    rw (a, b) (omega arith)

-- a number below 2^n is the number of its digits
pub as_digits : (n m : ℕ) → m < 2 ^ n → digits (is_set m) 0 n ≡ m
as_digits n m h = own (is_set m) 0 n m h (λ k. rw (NatL.zero-add k))

-- ---- what the first and the last are
abbrev First : (ℕ → Bool) → ℕ → ℕ → ℕ → Type 0
First p i n f = (f < n → p (i + f) ≡ true) × ((k : ℕ) → k < f → p (i + k) ≡ false)

pub first_is : (p : ℕ → Bool) (i n : ℕ) → First p i n (before p i n)
unfolding before
first_is p i zero = (λ h. absurd (omega arith), λ k h. absurd (omega arith))
first_is p i (suc n) = go (p i) refl (first_is p (suc i) n)
  where
    here : i + 0 ≡ i
    here = omega arith

    there : (k : ℕ) → suc i + k ≡ i + suc k
    there k = omega arith

    go : (b : Bool) → p i ≡ b → First p (suc i) n (before p (suc i) n) → First p i (suc n) (cond b 0 (suc (before p (suc i) n)))
    go true e h = (λ _. ap p here ∙ e, λ k l. absurd (omega arith))
    go false e h = (λ l. ap p (sym (there (before p (suc i) n))) ∙ h.0 (omega arith), none)
      where
        none : (k : ℕ) → k < suc (before p (suc i) n) → p (i + k) ≡ false
        none zero l = ap p here ∙ e
        none (suc k) l = ap p (sym (there k)) ∙ h.1 k (omega arith)

abbrev Past : (ℕ → Bool) → ℕ → ℕ → ℕ → Type 0
Past p i n r = ((k : ℕ) → suc k ≡ r → p (i + k) ≡ true) × ((k : ℕ) → r ≤ k → k < n → p (i + k) ≡ false)

pub past_is : (p : ℕ → Bool) (i n : ℕ) → Past p i n (past p i n)
unfolding past
past_is p i zero = (λ k h. absurd (omega arith), λ k h l. absurd (omega arith))
past_is p i (suc n) = go (p i) (past p (suc i) n) refl (past_is p (suc i) n)
  where
    here : i + 0 ≡ i
    here = omega arith

    there : (k : ℕ) → suc i + k ≡ i + suc k
    there k = omega arith

    go : (b : Bool) (r : ℕ) → p i ≡ b → Past p (suc i) n r → Past p i (suc n) (on_top b r)
    go b (suc r) e h = (top, after)
      where
        top : (k : ℕ) → suc k ≡ suc (suc r) → p (i + k) ≡ true
        top zero l = absurd (omega arith)
        top (suc k) l = ap p (sym (there k)) ∙ h.0 k (omega arith)

        after : (k : ℕ) → suc (suc r) ≤ k → k < suc n → p (i + k) ≡ false
        after zero l m = absurd (omega arith)
        after (suc k) l m = ap p (sym (there k)) ∙ h.1 k (omega arith) (omega arith)
    go true zero e h = (top, after)
      where
        top : (k : ℕ) → suc k ≡ 1 → p (i + k) ≡ true
        top zero l = ap p here ∙ e
        top (suc k) l = absurd (omega arith)

        after : (k : ℕ) → 1 ≤ k → k < suc n → p (i + k) ≡ false
        after zero l m = absurd (omega arith)
        after (suc k) l m = ap p (sym (there k)) ∙ h.1 k (omega arith) (omega arith)
    go false zero e h = (λ k l. absurd (omega arith), after)
      where
        after : (k : ℕ) → 0 ≤ k → k < suc n → p (i + k) ≡ false
        after zero l m = ap p here ∙ e
        after (suc k) l m = ap p (sym (there k)) ∙ h.1 k (omega arith) (omega arith)

-- 1 << i on 32 bits
pub one_shl : (i : ℕ) → i < 32 → (1 * 2 ^ i) % 4294967296 ≡ 2 ^ i
one_shl i h = rw (NatL.one-mul (2 ^ i)) (NatL.mod-eq_of_lt (pow-lt {j = 32} h))
