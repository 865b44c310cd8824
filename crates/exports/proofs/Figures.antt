-- Laws of a run as C sees it: the figures in the room for them, and the answer.
use mathlib.Core.Path.{◌≡◌, refl, sym, ◌∙◌}
use mathlib.Core.Bool.{false}
use mathlib.Core.List.{List, [], ◌∷◌}
use Prim.Native.Nat.{ℕ, ◌≤◌, ◌<◌}
use native.Mathlib.Omega.{arith}
use borrow.Author.Tests.{le-leb, lt-leb, ne_eqb}
use lib.Dec.{eqb}
use lib.ListN.{length, drop, set}
use Rattle.std.specs.Prelude.{Ok, Err}
use Rattle.answers.specs.Answers.{refusal_number}
use Rattle.answers.specs.declared.Refusal.{Refusal}
use Rattle.answers.proofs.Numbers.{refused_number}
use Rattle.vbk.specs.Promises.{run_answer, Replayed}
use Rattle.vbk.specs.declared.Run.{Run}
use Rattle.exports.specs.Run.{FIGURES, figures, export_answer, RunTold}

-- five stores
pub front : (room : List ℕ) (a b c d e : ℕ) → FIGURES ≤ length room → set (set (set (set (set room 0 a) 1 b) 2 c) 3 d) 4 e ≡ a ∷ b ∷ c ∷ d ∷ e ∷ drop FIGURES room
front [] a b c d e h = absurd (omega arith)
front (_ ∷ []) a b c d e h = absurd (omega arith)
front (_ ∷ _ ∷ []) a b c d e h = absurd (omega arith)
front (_ ∷ _ ∷ _ ∷ []) a b c d e h = absurd (omega arith)
front (_ ∷ _ ∷ _ ∷ _ ∷ []) a b c d e h = absurd (omega arith)
front (_ ∷ _ ∷ _ ∷ _ ∷ _ ∷ rest) a b c d e h = refl

module _ (s samples answers room : List ℕ) where
  -- no room for the figures
  pub short : {r : ℕ} → length room < FIGURES → r ≡ 6 → RunTold s samples answers room r samples answers room
  unfolding export_answer
  short h e =
      let x : export_answer s samples answers room ≡ 6 = rw (lt-leb FIGURES (length room) h) in
      record { answered = e ∙ sym x; samples_are = rw x; answers_are = rw x; figures_are = rw x }

  module _ (h : FIGURES ≤ length room) where
    same : export_answer s samples answers room ≡ run_answer s samples answers
    unfolding export_answer
    same = rw (le-leb FIGURES (length room) h)

    pub refused : {samples' answers' : List ℕ} {a : Refusal} → Replayed s samples answers (Err a) samples' answers' → {n : ℕ} → n ≡ refusal_number a → RunTold s samples answers room n samples' answers' room
    refused {a = a} d {n} e =
        let is : n ≡ run_answer s samples answers = e ∙ d.answered in
        let b : eqb (run_answer s samples answers) 0 ≡ false = ne_eqb (run_answer s samples answers) 0 (λ q. refused_number a (d.answered ∙ q)) in
        record { answered = is ∙ sym same; samples_are = rw same d.samples_are; answers_are = rw same d.answers_are; figures_are = rw (same, b) }

    pub done : {samples' answers' : List ℕ} {r : Run} → Replayed s samples answers (Ok r) samples' answers' → {room' : List ℕ} → room' ≡ r.fields.depth ∷ r.fields.width ∷ r.fields.height ∷ r.count ∷ r.touched ∷ drop FIGURES room → RunTold s samples answers room 0 samples' answers' room'
    unfolding figures
    done {r = r} d p =
        let zero : run_answer s samples answers ≡ 0 = sym d.answered in
        record { answered = d.answered ∙ sym same; samples_are = rw same d.samples_are; answers_are = rw same d.answers_are; figures_are = p ∙ rw (same, zero, d.told.fields_are, d.told.count_is, d.told.touched_is) }
