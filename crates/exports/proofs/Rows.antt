-- Laws of the calls about rows as C sees them: a summary's rows are below 32, and what each call leaves.
use mathlib.Core.Path.{◌≡◌, sym, ap, ◌∙◌}
use mathlib.Core.Bool.{Bool, true, false}
use mathlib.Core.List.{List, [], ◌∷◌, ◌++◌}
use Prim.Native.Nat.{ℕ, zero, suc, ◌≤◌, ◌<◌}
use native.Mathlib.Omega.{arith}
use borrow.Author.Tests.{eq-eqb, ne_eqb}
use Rattle.whole.specs.Steps.{each, when}
use Rattle.std.specs.Prelude.{Ok, Err}
use Rattle.answers.specs.Answers.{Answer, number, refusal_number}
use Rattle.answers.specs.declared.Refusal.{Refusal}
use Rattle.summary.specs.Summary.{those, is_set, set_rows, first_of, last_of, summarized}
use Rattle.idct.specs.Driver as D
use Rattle.idct.specs.Rows.{Rowed}
use Rattle.exports.specs.Told.{Told}
use Rattle.exports.specs.Rows.{Asked, summary_number, summary_or, asked_answer, asked_after, Beside, Counting, counting_answer, counting_after}
use Rattle.rows_told.specs.Inner.{place_of}

-- ---- every row of a summary is below 32
data Below (n : ℕ) : List ℕ → Type 0 where
  none : Below n []
  more : {i : ℕ} {is : List ℕ} → i < n → Below n is → Below n (i ∷ is)

below_suc : (n : ℕ) (l : List ℕ) → Below n l → Below (suc n) l
below_suc n [] none = none
below_suc n (i ∷ is) (more h b) = more {i = i} (omega arith) (below_suc n is b)

below_join : (n : ℕ) (k l : List ℕ) → Below n k → Below n l → Below n (k ++ l)
below_join n [] l none c = c
below_join n (i ∷ is) l (more h b) c = more h (below_join n is l b c)

one : (n : ℕ) (b : Bool) → Below (suc n) (when b (n ∷ []))
unfolding when
one n true = more {i = n} (omega arith) none
one n false = none

those_below : (p : ℕ → Bool) (n : ℕ) → Below n (each n (λ i. when (p i) (i ∷ [])))
unfolding each
those_below p zero = none
those_below p (suc n) = below_join (suc n) _ _ (below_suc n _ (those_below p n)) (one n (p n))

rows_below : (m : ℕ) → Below 32 (set_rows m)
unfolding set_rows those
rows_below m = those_below (is_set m) 32

first_place : (l : List ℕ) → Below 32 l → place_of (first_of l) ≤ 31
first_place [] b = omega arith
first_place (i ∷ is) (more h b) = omega arith

last_place : (l : List ℕ) → Below 32 l → place_of (last_of l) ≤ 31
last_place [] b = omega arith
last_place (i ∷ []) (more h b) = omega arith
last_place (i ∷ (j ∷ is)) (more h b) = last_place (j ∷ is) b

pub first_below : (m : ℕ) → place_of (first_of (set_rows m)) ≤ 31
first_below m = first_place (set_rows m) (rows_below m)

pub last_below : (m : ℕ) → place_of (last_of (set_rows m)) ≤ 31
last_below m = last_place (set_rows m) (rows_below m)

-- ---- the summary in its room
module _ (u : Asked) where
  pub summed : (m : ℕ) → summarized u.n u.block ≡ Ok m → Told asked_answer asked_after u 0 m
  summed m e = record { answered = sym (ap summary_number e); written = sym (ap (summary_or u.room) e) }

  pub not_summed : (a : Refusal) {r : ℕ} → summarized u.n u.block ≡ Err a → r ≡ refusal_number a → Told asked_answer asked_after u r u.room
  not_summed a e q = record { answered = q ∙ sym (ap summary_number e); written = sym (ap (summary_or u.room) e) }

-- ---- a block and a number beside it
pub together : (a b : Beside) → a.block ≡ b.block → a.rows ≡ b.rows → a ≡ b
together a b p q = ap (λ x. record { block = x; rows = a.rows }) p ∙ ap (λ (x : ℕ). record { block = b.block; rows = x }) q

-- ---- the row transforms in their room
module _ (u : Counting) {a : Answer} {k : ℕ} {after : _} (d : Rowed u.input a k after) {r : ℕ} (e : r ≡ number a) where
  is : r ≡ D.answer_of u.input
  is = e ∙ d.answered

  pub counted : {m : ℕ} → m ≡ k → r ≡ 0 → Told counting_answer counting_after u r (record { block = after; rows = m })
  counted s z =
      let t = eq-eqb (D.answer_of u.input) 0 (sym is ∙ z) in
      record { answered = is; written = together _ _ d.written (rw t (s ∙ d.counted)) }

  pub not_counted : (r ≡ 0 → ⊥) → Told counting_answer counting_after u r (record { block = after; rows = u.room })
  not_counted z =
      let t = ne_eqb (D.answer_of u.input) 0 (λ q. z (is ∙ q)) in
      record { answered = is; written = together _ _ d.written (rw t) }
