-- Laws of the calls: the plane as the file has it, a refusal, a whole run.
use mathlib.Core.Path.{◌≡◌, refl, sym, ap, ◌∙◌}
use mathlib.Core.Bool.{Bool, true, false, cond, ◌&&◌}
use mathlib.Core.List.{List, ◌++◌}
use Rattle.std.specs.Prelude.{Result, Ok, Err}
use Prim.Native.Nat.{ℕ, ◌≤◌}
use native.Mathlib.Decide.{ℕ_discrete}
use borrow.Author.Tests.{leb-true, both_ways, ne_eqb}
use lib.Dec.{eqb, leb}
use lib.ListN.{length, take, drop}
use lib.Seq.{take_at}
use Rattle.whole.specs.Lists.{fill}
use Rattle.whole.proofs.Lists.{fill_all}
use Rattle.answers.specs.Answers.{refusal_number}
use Rattle.answers.specs.declared.Refusal.{Refusal}
use Rattle.answers.proofs.Numbers.{refused_number}
use Rattle.vbk_read.specs.Header.{sample_at, samples_of, plane_area, header_answer, fields_of}
use Rattle.vbk_read.specs.declared.Fields.{Fields}
use Rattle.vbk.specs.Replay.{Reconstruction, After, records_of}
use Rattle.vbk.specs.Filled.{reconstruction}
use Rattle.vbk.specs.Inner.{Ran}
use Rattle.vbk.specs.Promises.{run_by, samples_for, roomy, run_answer, Tells, Played, Replayed}
use Rattle.vbk.specs.declared.Run.{Run}

-- the samples, read into a room of their own length
pub plane_read : (s samples : List ℕ) {read : List ℕ} {at : ℕ} → length samples ≡ plane_area s → at ≡ 10 → read ≡ fill (length samples) (sample_at s at) samples → read ≡ samples_of s
unfolding samples_of
plane_read s samples {read} {at} l e h =
    h ∙ fill_all 0 (sample_at s at) samples ∙ rw (l, e)

-- the answer, by the rooms
pub short : (s samples answers : List ℕ) → roomy samples answers ≡ false → run_answer s samples answers ≡ 6
unfolding run_answer
short s samples answers h = rw h

pub enough : (s samples answers : List ℕ) → roomy samples answers ≡ true → run_answer s samples answers ≡ header_answer s
unfolding run_answer
enough s samples answers h = rw h

pub rooms : (samples answers : List ℕ) → roomy samples answers ≡ true → (4096 ≤ length samples) × (874 ≤ length answers)
unfolding roomy
rooms samples answers h =
    let p = and_true (leb 4096 (length samples)) (leb 874 (length answers)) h in
    (leb-true 4096 (length samples) p.0, leb-true 874 (length answers) p.1)
  where
    and_true : (x y : Bool) → x && y ≡ true → (x ≡ true) × (y ≡ true)
    and_true true y e = (refl, e)
    and_true false y e = absurd (both_ways false refl e)

module _ {B : Type 0} (R : Reconstruction) (beside : List ℕ → B → List ℕ) (s samples answers : List ℕ) (b : B) where
  -- a refusal changes nothing
  pub refusal : (a : Refusal) → refusal_number a ≡ run_answer s samples answers → Played R beside s samples answers b (Err a) samples answers b
  refusal a h =
      let z : run_answer s samples answers ≡ 0 → ⊥ = λ q. refused_number a (h ∙ q) in
      let no : eqb (run_answer s samples answers) 0 ≡ false = ne_eqb (run_answer s samples answers) 0 z in
      record { answered = h; told = tt; answers_are = rw no; samples_are = rw no; beside_is = λ q. absurd (z q); beside_stays = λ _. refl }

  -- a whole run
  pub whole : (f : Fields) (count touched n : ℕ) (plane after : List ℕ) (b' : B) → n ≡ plane_area s → length plane ≡ n → run_answer s samples answers ≡ 0 → f ≡ fields_of s
      → Ran (run_by R s (beside (samples_of s) b)) count touched answers after (beside plane b')
      → Played R beside s samples answers b (Ok (record { fields = f; count = count; touched = touched })) (plane ++ drop n samples) after b'
  whole f count touched n plane after b' an long h e r =
      let front : take (plane_area s) (plane ++ drop n samples) ≡ plane = take_at plane (drop n samples) (plane_area s) (long ∙ an) in
      record {
        answered = sym h;
        told =
            record { fields_are = e; count_is = r.count_is; touched_is = r.touched_is; count_most = r.count_most; touched_most = r.touched_most };
        answers_are =
            r.answers_are ∙ ap (λ (k : ℕ). (run_by R s (beside (samples_of s) b)).answers ++ drop k answers) r.count_is ∙ sym (rw h);
        samples_are =
            ap (λ (k : ℕ). plane ++ drop k samples) an ∙ ap (λ (l : List ℕ). l ++ drop (plane_area s) samples) (sym front) ∙ sym (rw h);
        beside_is = λ _. ap (λ (l : List ℕ). beside l b') front ∙ r.samples_are;
        beside_stays = λ no. absurd (no h);
      }

-- with nothing beside the plane it is `replay`'s promise
pub alone : {B : Type 0} {s samples answers : List ℕ} {b b' : B} {r : Result Run Refusal} {samples' answers' : List ℕ} → Played reconstruction (λ l _. l) s samples answers b r samples' answers' b'
    → Replayed s samples answers r samples' answers'
unfolding records_of
alone {B} {s} {samples} {answers} {b} {b'} {r} {samples'} {answers'} p =
    record {
      answered = p.answered;
      told = p.told;
      samples_are = go (ℕ_discrete (run_answer s samples answers) 0);
      answers_are = p.answers_are;
    }
  where
    go : Dec (run_answer s samples answers ≡ 0) → samples' ≡ cond (eqb (run_answer s samples answers) 0) (samples_for s samples) samples
    go (yes z) =
        p.samples_are ∙ ap (λ (l : List ℕ). cond (eqb (run_answer s samples answers) 0) (l ++ drop (plane_area s) samples) samples) (p.beside_is z)
    go (no n) =
        let f : eqb (run_answer s samples answers) 0 ≡ false = ne_eqb (run_answer s samples answers) 0 n in
        p.samples_are ∙ rw f

-- a run that is told is told in one way
pub tells_unique : (s : List ℕ) (a : After) (x y : Run) → Tells s a x → Tells s a y → x ≡ y
tells_unique s a x y p q =
    ap (λ (f : Fields). record { fields = f; count = x.count; touched = x.touched }) (p.fields_are ∙ sym q.fields_are)
    ∙ ap (λ (c : ℕ). record { fields = y.fields; count = c; touched = x.touched }) (p.count_is ∙ sym q.count_is)
    ∙ ap (λ (t : ℕ). record { fields = y.fields; count = y.count; touched = t }) (p.touched_is ∙ sym q.touched_is)
