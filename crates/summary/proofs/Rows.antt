-- Lists of rows: one row more, the same rows by another test, their mask, how many, the first and the last.
use mathlib.Core.Path.{◌≡◌, refl, sym, ap, ◌∙◌}
use mathlib.Core.Bool.{Bool, true, false}
use mathlib.Core.List.{List, [], ◌∷◌, ◌++◌}
use mathlib.Core.Logic.{⊎_elim}
use Prim.Native.Nat.{ℕ, zero, suc, ◌+◌, ◌-◌, ◌*◌, ◌^◌, ◌≤◌, ◌<◌}
use native.Mathlib.Nat as NatL
use native.Mathlib.Numerals.{add-one}
use native.Mathlib.Omega.{arith}
use lib.Count.{ones, count_trailing_zeros, count_leading_zeros}
use lib.IntN.{ℤ}
use lib.ListN.{length, length-append}
use Rattle.whole.specs.Steps.{each, when}
use Rattle.blocks.specs.Block.{live}
use Rattle.blocks.proofs.Places.{le_or_lt}
use Rattle.std.specs.Prelude.{Option, Some, None}
use Rattle.summary.specs.Summary.{those, mask, is_set, set_rows, live_rows, summary_of, first_of, last_of}
use Rattle.summary.proofs.Digits.{digit, digits, digits_lt, digits_top, count, count_top, before, past, past_pos, set_digits, set_past, as_digits, ones_digits, trailing_digits, leading_digits, first_is, past_is}

-- ---- one more
those_more : (p : ℕ → Bool) (n : ℕ) → those p (suc n) ≡ those p n ++ when (p n) (n ∷ [])
unfolding those each
those_more p n = refl

nil_right : {A : Type 0} (l : List A) → l ++ [] ≡ l
nil_right [] = refl
nil_right (x ∷ l) = ap (λ (u : List _). x ∷ u) (nil_right l)

pub those_yes : (p : ℕ → Bool) (n : ℕ) → p n ≡ true → those p (suc n) ≡ those p n ++ (n ∷ [])
unfolding when
those_yes p n e = those_more p n ∙ rw e

pub those_no : (p : ℕ → Bool) (n : ℕ) → p n ≡ false → those p (suc n) ≡ those p n
unfolding when
those_no p n e = those_more p n ∙ rw e (nil_right (those p n))

-- by another test that says the same below n
pub those_ext : (p q : ℕ → Bool) (n : ℕ) → ((k : ℕ) → k < n → p k ≡ q k) → those p n ≡ those q n
unfolding those each
those_ext p q zero f = refl
those_ext p q (suc n) f = those_more p n ∙ rw (those_ext p q n (λ k l. f k (omega arith)), f n (omega arith)) (sym (those_more q n))

-- none from n on
pub those_stop : (p : ℕ → Bool) (n d : ℕ) → ((k : ℕ) → n ≤ k → p k ≡ false) → those p (d + n) ≡ those p n
those_stop p n zero f = rw (NatL.zero-add n)
those_stop p n (suc d) f = let e : suc d + n ≡ suc (d + n) = omega arith in rw e (those_no p (d + n) (f (d + n) (omega arith)) ∙ those_stop p n d f)

-- ---- the mask of a list
mask_join : (xs ys : List ℕ) → mask (xs ++ ys) ≡ mask xs + mask ys
unfolding mask
mask_join [] ys = omega arith
mask_join (x ∷ xs) ys = rw (mask_join xs ys) (omega arith)

mask_one : (n : ℕ) → mask (n ∷ []) ≡ 2 ^ n
unfolding mask
mask_one n = omega arith

pub mask_digits : (p : ℕ → Bool) (n : ℕ) → mask (those p n) ≡ digits p 0 n
unfolding those each mask digits
mask_digits p zero = refl
mask_digits p (suc n) = go (mask_digits p n) (p n) refl
  where
    top : digits p 0 (suc n) ≡ digits p 0 n + digit (p n) * 2 ^ n
    top = rw (NatL.zero-add n) at (digits_top p 0 n)

    go : mask (those p n) ≡ digits p 0 n → (b : Bool) → p n ≡ b → mask (those p (suc n)) ≡ digits p 0 (suc n)
    go h true e = ap mask (those_yes p n e) ∙ mask_join (those p n) (n ∷ []) ∙ rw (h, mask_one n, top, e) (omega arith)
    go h false e = ap mask (those_no p n e) ∙ rw (h, top, e) (omega arith)

pub mask_lt : (p : ℕ → Bool) (n : ℕ) → mask (those p n) < 2 ^ n
mask_lt p n = rw (mask_digits p n) (digits_lt p 0 n)

-- as a loop over the rows builds it
pub mask_yes : (p : ℕ → Bool) (n : ℕ) → p n ≡ true → mask (those p n) + 2 ^ n ≡ mask (those p (n + 1))
mask_yes p n e = rw (add-one n, those_yes p n e, mask_join (those p n) (n ∷ []), mask_one n)

pub mask_no : (p : ℕ → Bool) (n : ℕ) → p n ≡ false → mask (those p n) ≡ mask (those p (n + 1))
mask_no p n e = rw (add-one n, those_no p n e)

pub mask_none : (p : ℕ → Bool) → 0 ≡ mask (those p 0)
unfolding those each mask
mask_none p = refl

-- ---- the bits of the mask of those below n that have p
pub mask_set : (p : ℕ → Bool) (n k : ℕ) → k < n → is_set (mask (those p n)) k ≡ p k
mask_set p n k h = rw (mask_digits p n) (set_digits p n k h)

pub mask_past : (p : ℕ → Bool) (n k : ℕ) → n ≤ k → is_set (mask (those p n)) k ≡ false
mask_past p n k h = set_past (mask (those p n)) n k (mask_lt p n) h

-- SCANNED: the rows of a block's summary are those of the full scan, so count, first and last are the scan's
pub scanned : (n0 : ℕ) (s : List ℤ) → n0 ≤ 32 → set_rows (summary_of n0 s) ≡ live_rows n0 s
unfolding set_rows summary_of live_rows
scanned n0 s h =
    let p : ℕ → Bool = λ i. live (i * n0) n0 s in
    let e : (32 - n0) + n0 ≡ 32 = omega arith in
    rw e at (those_stop (is_set (mask (those p n0))) n0 (32 - n0) (λ k l. mask_past p n0 k l))
    ∙ those_ext (is_set (mask (those p n0))) p n0 (λ k l. mask_set p n0 k l)

-- the same of the bits below n0 alone
pub scanned_below : (n0 : ℕ) (s : List ℤ) → those (is_set (summary_of n0 s)) n0 ≡ live_rows n0 s
unfolding summary_of live_rows
scanned_below n0 s =
    let p : ℕ → Bool = λ i. live (i * n0) n0 s in
    those_ext (is_set (mask (those p n0))) p n0 (λ k l. mask_set p n0 k l)

-- ---- how many
those_count : (p : ℕ → Bool) (n : ℕ) → length (those p n) ≡ count p 0 n
unfolding those each count
those_count p zero = refl
those_count p (suc n) = go (those_count p n) (p n) refl
  where
    top : count p 0 (suc n) ≡ count p 0 n + digit (p n)
    top = rw (NatL.zero-add n) at (count_top p 0 n)

    go : length (those p n) ≡ count p 0 n → (b : Bool) → p n ≡ b → length (those p (suc n)) ≡ count p 0 (suc n)
    go h true e = ap length (those_yes p n e) ∙ length-append (those p n) (n ∷ []) ∙ rw (h, top, e)
    go h false e = ap length (those_no p n e) ∙ rw (h, top, e) (omega arith)

pub ones_rows : (m : ℕ) → m < 2 ^ 32 → ones m ≡ length (set_rows m)
unfolding set_rows
ones_rows m h = rw (as_digits 32 m h) at (ones_digits (is_set m) 0 32) ∙ sym (those_count (is_set m) 32)

-- ---- the first
abbrev is_at : Option ℕ → ℕ
is_at None = 0
is_at (Some i) = 1

none_at : {f : ℕ} → None ≡ Some f → ⊥
none_at e = let z : ◌≡◌ {A = ℕ} 0 1 = ap is_at e in omega arith

first_join : (xs ys : List ℕ) {f : ℕ} → first_of xs ≡ Some f → first_of (xs ++ ys) ≡ Some f
first_join [] ys e = absurd (none_at e)
first_join (x ∷ xs) ys e = e

none_those : (p : ℕ → Bool) (n : ℕ) → ((k : ℕ) → k < n → p k ≡ false) → those p n ≡ []
unfolding those each
none_those p zero f = refl
none_those p (suc n) f = those_no p n (f n (omega arith)) ∙ none_those p n (λ k l. f k (omega arith))

first_those : (p : ℕ → Bool) (n f : ℕ) → f < n → p f ≡ true → ((k : ℕ) → k < f → p k ≡ false) → first_of (those p n) ≡ Some f
first_those p zero f l e g = absurd (omega arith)
first_those p (suc n) f l e g = ⊎_elim
    (λ (q : f ≡ n). let g' : (k : ℕ) → k < n → p k ≡ false = rw q at g in
    let e' : p n ≡ true = rw q at e in
    rw (those_yes p n e', none_those p n g', q))
    (λ (q : f < n). ap first_of (those_more p n) ∙ first_join (those p n) (when (p n) (n ∷ [])) (first_those p n f q e g))
    (NatL.eq-or-lt_of_le (omega arith))

-- ---- the last
last_end : (xs : List ℕ) (n : ℕ) → last_of (xs ++ (n ∷ [])) ≡ Some n
last_end [] n = refl
last_end (x ∷ []) n = refl
last_end (x ∷ (y ∷ xs)) n = last_end (y ∷ xs) n

last_those : (p : ℕ → Bool) (n k : ℕ) → k < n → p k ≡ true → ((j : ℕ) → suc k ≤ j → j < n → p j ≡ false) → last_of (those p n) ≡ Some k
last_those p zero k l e g = absurd (omega arith)
last_those p (suc n) k l e g = ⊎_elim
    (λ (q : k ≡ n). let e' : p n ≡ true = rw q at e in rw (those_yes p n e', q) (last_end (those p n) n))
    (λ (q : k < n). rw (those_no p n (g n (omega arith) (omega arith))) (last_those p n k q e (λ j a b. g j a (omega arith))))
    (NatL.eq-or-lt_of_le (omega arith))

-- a number that is not 0 has a set bit; 0 has none
pub zero_rows : set_rows 0 ≡ []
unfolding set_rows
zero_rows = none_those (is_set 0) 32 (λ k l. set_past 0 0 k (omega arith) (omega arith))

module _ (m : ℕ) (some : 0 < m) (h : m < 2 ^ 32) where
  top : ℕ
  top = past (is_set m) 0 32

  top_pos : 0 < top
  unfolding top
  top_pos = past_pos (is_set m) 0 32 (rw (as_digits 32 m h) some)

  leads : count_leading_zeros 32 m + top ≡ 32
  unfolding top
  leads = rw (as_digits 32 m h) at (leading_digits (is_set m) 0 32)

  last_set : is_set m (top - 1) ≡ true
  unfolding top
  last_set =
      let z = top_pos in
      let e : suc (top - 1) ≡ top = omega arith in
      rw (NatL.zero-add (top - 1)) at ((past_is (is_set m) 0 32).0 (top - 1) e)

  pub last_rows : Some (31 - count_leading_zeros 32 m) ≡ last_of (set_rows m)
  unfolding set_rows top
  last_rows =
      let z = top_pos in
      let e : 31 - count_leading_zeros 32 m ≡ top - 1 = omega (arith, leads) in
      rw e
      (sym (last_those (is_set m) 32 (top - 1) (omega (arith, leads)) last_set
      (λ j a b. rw (NatL.zero-add j) at ((past_is (is_set m) 0 32).1 j (omega arith) b))))

  pub leads_most : count_leading_zeros 32 m ≤ 31
  leads_most = omega (arith, leads, top_pos)

  -- the first is no later than the last, so there is one
  trail : ℕ
  trail = before (is_set m) 0 32

  trail_lt : trail < 32
  unfolding trail
  trail_lt = ⊎_elim
      (λ (q : trail ≤ top - 1). let z = top_pos in omega (arith, leads))
      (λ (q : top - 1 < trail). absurd (contrary (sym last_set ∙ rw (NatL.zero-add (top - 1)) at ((first_is (is_set m) 0 32).1 (top - 1) q))))
      (le_or_lt trail (top - 1))
    where
      contrary : true ≡ false → ⊥
      contrary e = let z : ◌≡◌ {A = ℕ} 0 1 = cc in omega arith

  pub first_rows : Some (count_trailing_zeros 32 m) ≡ first_of (set_rows m)
  unfolding set_rows trail
  first_rows =
      let e : count_trailing_zeros 32 m ≡ trail = rw (as_digits 32 m h) at (trailing_digits (is_set m) 0 32) in
      let f = first_is (is_set m) 0 32 in
      rw e
      (sym (first_those (is_set m) 32 trail trail_lt (rw (NatL.zero-add trail) at (f.0 trail_lt)) (λ k l. rw (NatL.zero-add k) at (f.1 k l))))
