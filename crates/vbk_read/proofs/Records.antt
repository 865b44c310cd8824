-- Laws of a record: its checks one by one, the record that ends the reading and the one after which it goes on; its numbers read one after another.
use mathlib.Core.Path.{◌≡◌, refl}
use mathlib.Core.Bool.{true, false}
use mathlib.Core.List.{List}
use Prim.Native.Nat.{ℕ, zero, suc, ◌+◌, ◌≤◌, ◌<◌}
use native.Mathlib.Omega.{arith}
use borrow.Author.Tests.{lt-ltb, le-ltb, ne_eqb}
use lib.Dec.{ltb}
use lib.ListN.{length}
use Rattle.answers.specs.Answers.{refusal_number}
use Rattle.answers.specs.Sizes.{area}
use Rattle.answers.specs.declared.Refusal.{Refusal}
use Rattle.answers.specs.declared.Refusal.TheVariants.{LosslessByte}
use Rattle.vbk_read.specs.Bytes.{le1, le2}
use Rattle.vbk_read.specs.Records.{size_at, lossless_at, head_at, next_at, end_answer, check_answer, Recorded}
use Rattle.vbk_read.specs.Inner.{Took}
use Rattle.vbk_read.specs.declared.Head.{Head}
use Rattle.vbk_read.specs.declared.Record.TheVariants.{End, Last, Skipped, Whole}

-- seven numbers read one after another
pub head : (s : List ℕ) (at x y size tx_type lossless dc ac n1 n2 n3 n4 n5 n6 n7 : ℕ)
    → Took (le2 s at) (at + 2) x n1 → Took (le2 s n1) (n1 + 2) y n2 → Took (le1 s n2) (n2 + 1) size n3 → Took (le1 s n3) (n3 + 1) tx_type n4 → Took (le1 s n4) (n4 + 1) lossless n5 → Took (le2 s n5) (n5 + 2) dc n6 → Took (le2 s n6) (n6 + 2) ac n7
    → ◌≡◌ {A = Head} (record { x = x; y = y; size = size; tx_type = tx_type; lossless = lossless; dc = dc; ac = ac; next = record { at = n7 } }) (head_at s at)
head s at x y size tx_type lossless dc ac n1 n2 n3 n4 n5 n6 n7 a b c d e f g =
    let e1 : n1 ≡ at + 2 = omega (arith, a.next_is) in
    let e2 : n2 ≡ at + 4 = omega (arith, b.next_is) in
    let e3 : n3 ≡ at + 5 = omega (arith, c.next_is) in
    let e4 : n4 ≡ at + 6 = omega (arith, d.next_is) in
    let e5 : n5 ≡ at + 7 = omega (arith, e.next_is) in
    let e6 : n6 ≡ at + 9 = omega (arith, f.next_is) in
    let e7 : n7 ≡ at + 11 = omega (arith, g.next_is) in
    rw (a.value_is, b.value_is, c.value_is, d.value_is, e.value_is, f.value_is, g.value_is, e1, e2, e3, e4, e5, e6, e7) refl

-- what holds of the four size numbers
pub sizes : (P : ℕ → Type 0) → P 0 → P 1 → P 2 → P 3 → (size : ℕ) → size ≤ 3 → P size
sizes P p q r t zero h = p
sizes P p q r t (suc zero) h = q
sizes P p q r t (suc (suc zero)) h = r
sizes P p q r t (suc (suc (suc zero))) h = t
sizes P p q r t (suc (suc (suc (suc n)))) h = absurd (omega arith)

pub count_most : (size : ℕ) → size ≤ 3 → area (size + 2) ≤ 1024
count_most = sizes (λ (n : ℕ). area (n + 2) ≤ 1024) (omega arith) (omega arith) (omega arith) (omega arith)

pub count_least : (size : ℕ) → size ≤ 3 → 16 ≤ area (size + 2)
count_least = sizes (λ (n : ℕ). 16 ≤ area (n + 2)) (omega arith) (omega arith) (omega arith) (omega arith)

module _ (s : List ℕ) (at : ℕ) where
  pub cut_head : length s < at + 11 → end_answer s at ≡ 12
  unfolding end_answer
  cut_head h = rw (lt-ltb (length s) (at + 11) h)

  pub size_above : at + 11 ≤ length s → 3 < size_at s at → end_answer s at ≡ 2
  unfolding end_answer
  size_above h k = rw (le-ltb (length s) (at + 11) h, lt-ltb 3 (size_at s at) k)

  pub cut_tokens : at + 11 ≤ length s → size_at s at ≤ 3 → length s < next_at s at → end_answer s at ≡ 12
  unfolding end_answer
  cut_tokens h k l = rw (le-ltb (length s) (at + 11) h, le-ltb 3 (size_at s at) k, lt-ltb (length s) (next_at s at) l)

  pub goes_on : at + 11 ≤ length s → size_at s at ≤ 3 → next_at s at ≤ length s → end_answer s at ≡ 0
  unfolding end_answer
  goes_on h k l = rw (le-ltb (length s) (at + 11) h, le-ltb 3 (size_at s at) k, le-ltb (length s) (next_at s at) l)

  -- no byte is left
  pub none : length s ≤ at → Recorded s at End
  unfolding check_answer
  none h =
      record {
        found_is = rw (le-ltb at (length s) h) refl;
        ends_is = rw (cut_head (omega arith)) refl;
        answered = rw (le-ltb at (length s) h) refl;
        head_is = rw (cut_head (omega arith)) refl;
        next_is = rw (cut_head (omega arith)) refl;
      }

  -- the record that ends the reading
  pub last : (n : ℕ) (a : Refusal) → at < length s → end_answer s at ≡ suc n → refusal_number a ≡ suc n → Recorded s at (Last a)
  unfolding check_answer
  last n a l h k =
      record {
        found_is = rw (lt-ltb at (length s) l) refl;
        ends_is = rw (h, ne_eqb (suc n) 0 (λ q. omega arith)) refl;
        answered = rw (lt-ltb at (length s) l, h, ne_eqb (suc n) 0 (λ q. omega arith)) k;
        head_is = rw (h, ne_eqb (suc n) 0 (λ q. omega arith)) refl;
        next_is = rw (h, ne_eqb (suc n) 0 (λ q. omega arith)) refl;
      }

  -- a record after which the reading goes on
  module _ (n : ℕ) (l : at < length s) (e : end_answer s at ≡ 0) (q : n ≡ next_at s at) where
    pub skipped : 1 < lossless_at s at → Recorded s at (Skipped LosslessByte (record { at = n }))
    unfolding check_answer
    skipped k =
        let b : ltb 1 (lossless_at s at) ≡ true = lt-ltb 1 (lossless_at s at) k in
        record {
          found_is = rw (lt-ltb at (length s) l) refl;
          ends_is = rw e refl;
          answered = rw (lt-ltb at (length s) l, e, b) refl;
          head_is = rw (e, b) refl;
          next_is = rw e q;
        }

    pub whole : {h : Head} → lossless_at s at ≤ 1 → h ≡ head_at s at → Recorded s at (Whole h (record { at = n }))
    unfolding check_answer
    whole {h} k p =
        let b : ltb 1 (lossless_at s at) ≡ false = le-ltb 1 (lossless_at s at) k in
        record {
          found_is = rw (lt-ltb at (length s) l) refl;
          ends_is = rw e refl;
          answered = rw (lt-ltb at (length s) l, e, b) refl;
          head_is = rw (e, b) p;
          next_is = rw e q;
        }
