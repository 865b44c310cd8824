-- Laws of a run: nothing after the end, one record more, what is done and what is left, how far the numbers go.
use mathlib.Core.Path.{◌≡◌, refl, sym, ap, ◌∙◌}
use mathlib.Core.Bool.{Bool, true, false, cond, not}
use mathlib.Core.List.{List, [], ◌∷◌, ◌++◌, append_assoc, append-nil}
use Prim.Native.Nat.{ℕ, zero, suc, ◌+◌, ◌*◌, ◌-◌, ◌≤◌, ◌<◌}
use native.Mathlib.Nat as N
use native.Mathlib.Numerals.{add-one}
use native.Mathlib.Omega.{arith}
use borrow.Author.Tests.{le-ltb, lt-ltb, not-false, eqb-true, ltb-false, ne_eqb, both_ways}
use lib.Dec.{ltb, eqb}
use lib.ListN.{length, take, drop, set, length-set, take-append-drop}
use lib.Seq.{take-suc-set, length-take-le, drop-set-lt, drop-drop}
use Rattle.answers.proofs.Numbers.{pass, rest}
use Rattle.answers.specs.Sizes.{side, area}
use Rattle.plane.specs.declared.Plane.{Plane}
use Rattle.plane.specs.Place.{written}
use Rattle.plane.proofs.Count.{written_block}
use Rattle.vbk_read.specs.Records.{size_at, lossless_at, head_at, next_at, found, end_answer, ends, lossless_answer, check_answer, read_on, is_found, record_number, head_in, Recorded}
use Rattle.vbk_read.specs.declared.Head.{Head}
use Rattle.vbk_read.specs.declared.Record.{Record}
use Rattle.vbk_read.specs.declared.Cursor.{Cursor}
use Rattle.vbk_read.specs.declared.Record.TheVariants.{End, Last, Skipped, Whole}
use Rattle.vbk_read.proofs.Records.{count_least, count_most}
use Rattle.answers.proofs.Numbers.{refused_number}
use Rattle.vbk.specs.Replay.{Reconstruction, After, no_record, and_then, touched_by, plane_of, rebuild_at, rebuilt_at, record_at, records}
use Rattle.vbk.specs.Inner.{Stepped, Ran}

module _ (R : Reconstruction) (s : List ℕ) where
  pub records_none : (k at : ℕ) (samples : List ℕ) → length s ≤ at → records R s k at samples ≡ no_record samples
  unfolding records
  records_none zero at samples h = refl
  records_none (suc k) at samples h = rw (le-ltb at (length s) h)

  pub records_more : (k at : ℕ) (samples : List ℕ) → at < length s
      → records R s (suc k) at samples ≡ and_then (record_at R s at samples).answer (touched_by (record_at R s at samples).answer (plane_of s) (head_at s at)) (records R s k (read_on s at) (record_at R s at samples).samples)
  unfolding records
  records_more k at samples h = rw (lt-ltb at (length s) h)

-- a record after which the reading goes on is there to its last byte
pub there : (s : List ℕ) (at : ℕ) → ends s at ≡ false → (size_at s at ≤ 3) × (next_at s at ≤ length s)
unfolding end_answer
there s at h =
    let e = eqb-true (end_answer s at) 0 (not-false (eqb (end_answer s at) 0) h) in
    let e2 = rest (ltb (length s) (at + 11)) 11 _ e in
    let e3 = rest (ltb 3 (size_at s at)) 1 _ e2 in
    (ltb-false 3 (size_at s at) (pass (ltb 3 (size_at s at)) 1 _ e2), ltb-false (length s) (next_at s at) (pass (ltb (length s) (next_at s at)) 11 _ e3))

-- the answer that ends the reading is not 0
not_done : (b : Bool) → not b ≡ true → b ≡ false
not_done true e = sym e
not_done false e = refl

last_not_done : (s : List ℕ) (at : ℕ) → ends s at ≡ true → eqb (end_answer s at) 0 ≡ false
last_not_done s at e = not_done (eqb (end_answer s at) 0) e

zero_done : (a : ℕ) → a ≡ 0 → eqb a 0 ≡ false → ⊥
zero_done a e h = never (rw e at h)
  where
    never : true ≡ false → ⊥
    never p = omega (arith, ap {B = ℕ} (λ (b : Bool). cond b 1 0) p)

refused_is : (b : Bool) (a : ℕ) → a ≡ cond b 14 0 → (a ≡ 0 → ⊥) → b ≡ true
refused_is true a e h = refl
refused_is false a e h = absurd (h e)

passed_is : (b : Bool) → cond {A = ℕ} b 14 0 ≡ 0 → b ≡ false
passed_is true e = absurd (omega arith)
passed_is false e = refl

module _ (s : List ℕ) (at : ℕ) {r : Record} (d : Recorded s at r) (f : is_found r ≡ true) where
  there_is : found s at ≡ true
  there_is = sym d.found_is ∙ f

  check_on : ends s at ≡ false → record_number r ≡ lossless_answer (lossless_at s at)
  unfolding check_answer
  check_on e = d.answered ∙ rw (there_is, e)

  check_last : ends s at ≡ true → record_number r ≡ end_answer s at
  unfolding check_answer
  check_last e = d.answered ∙ rw (there_is, e)

  -- a record that its own checks refuse
  module _ (R : Reconstruction) (samples : List ℕ) (z : record_number r ≡ 0 → ⊥) where
    refused_lossless : ends s at ≡ false → ltb 1 (lossless_at s at) ≡ true
    refused_lossless e = refused_is (ltb 1 (lossless_at s at)) (record_number r) (check_on e) z

    pub refused_answer : record_number r ≡ (record_at R s at samples).answer
    unfolding record_at rebuilt_at
    refused_answer = go (ends s at) refl
      where
        go : (b : Bool) → ends s at ≡ b → record_number r ≡ (record_at R s at samples).answer
        go true e = check_last e ∙ sym (rw e)
        go false e = check_on e ∙ rw (refused_lossless e, e)

    pub refused_samples : samples ≡ (record_at R s at samples).samples
    unfolding record_at rebuilt_at
    refused_samples = go (ends s at) refl
      where
        go : (b : Bool) → ends s at ≡ b → samples ≡ (record_at R s at samples).samples
        go true e = rw e
        go false e = rw (refused_lossless e, e)

  -- a record that its own checks pass
  module _ (z : record_number r ≡ 0) where
    pub goes_on : ends s at ≡ false
    goes_on = go (ends s at) refl
      where
        go : (b : Bool) → ends s at ≡ b → ends s at ≡ false
        go true e = absurd (zero_done (end_answer s at) (sym (check_last e) ∙ z) (last_not_done s at e))
        go false e = e

    pub good_lossless : ltb 1 (lossless_at s at) ≡ false
    good_lossless = passed_is (ltb 1 (lossless_at s at)) (sym (check_on goes_on) ∙ z)

    pub head_there : head_in r ≡ head_at s at
    head_there = d.head_is ∙ rw (goes_on, good_lossless)

    pub rebuilt_is : (R : Reconstruction) (samples : List ℕ) → record_at R s at samples ≡ rebuild_at R s at samples
    unfolding record_at rebuilt_at
    rebuilt_is R samples = rw (goes_on, good_lossless)

    -- what reconstruction asks
    pub whole_record : (size_at s at ≤ 3) × (next_at s at ≤ length s) × (head_in r ≡ head_at s at)
    whole_record = let w = there s at goes_on in (w.0, w.1, head_there)

-- a record that ends the reading touches nothing
last_answer : (R : Reconstruction) (s : List ℕ) (at : ℕ) (samples : List ℕ) → ends s at ≡ true → (record_at R s at samples).answer ≡ end_answer s at
unfolding record_at
last_answer R s at samples e = rw e

last_touched : (R : Reconstruction) (s : List ℕ) (at : ℕ) (samples : List ℕ) (p : Plane) (head : Head) → ends s at ≡ true → touched_by (record_at R s at samples).answer p head ≡ 0
unfolding touched_by
last_touched R s at samples p head e = ap (λ (x : ℕ). touched_by x p head) (last_answer R s at samples e) ∙ rw (last_not_done s at e)

-- the size in a record's head: 0 where it gives no value
module _ (s : List ℕ) (at : ℕ) {r : Record} (d : Recorded s at r) where
  pub head_size : (head_in r).size ≤ 3
  head_size = go (ends s at) (ltb 1 (lossless_at s at)) refl refl
    where
      go : (b c : Bool) → ends s at ≡ b → ltb 1 (lossless_at s at) ≡ c → (head_in r).size ≤ 3
      go true c e h = let k : (head_in r).size ≡ 0 = ap (λ (x : Head). x.size) d.head_is ∙ rw e in omega (arith, k)
      go false true e h = let k : (head_in r).size ≡ 0 = ap (λ (x : Head). x.size) d.head_is ∙ rw (e, h) in omega (arith, k)
      go false false e h = let k : (head_in r).size ≡ size_at s at = ap (λ (x : Head). x.size) d.head_is ∙ rw (e, h) in omega (arith, k, (there s at e).0)

  -- and the head is the record's own, wherever it is counted
  pub touched_head : (R : Reconstruction) (samples : List ℕ) → is_found r ≡ true
      → touched_by (record_at R s at samples).answer (plane_of s) (head_in r) ≡ touched_by (record_at R s at samples).answer (plane_of s) (head_at s at)
  unfolding touched_by record_at rebuilt_at
  touched_head R samples f = go (ends s at) (ltb 1 (lossless_at s at)) refl refl
    where
      go : (b c : Bool) → ends s at ≡ b → ltb 1 (lossless_at s at) ≡ c
          → touched_by (record_at R s at samples).answer (plane_of s) (head_in r) ≡ touched_by (record_at R s at samples).answer (plane_of s) (head_at s at)
      go true c e h = last_touched R s at samples (plane_of s) (head_in r) e ∙ sym (last_touched R s at samples (plane_of s) (head_at s at) e)
      go false true e h = rw (e, h)
      go false false e h = let k : head_in r ≡ head_at s at = d.head_is ∙ rw (e, h) in ap (touched_by (record_at R s at samples).answer (plane_of s)) k

-- what is done of a run, and what is left of it
pub record SoFar (total : After) (answers : List ℕ) (count touched : ℕ) (left : After) : Type 0 where
  pub answers_are : total.answers ≡ take count answers ++ left.answers
  pub samples_are : total.samples ≡ left.samples
  pub touched_is : total.touched ≡ touched + left.touched

pub far_none : (total : After) (answers : List ℕ) → SoFar total answers 0 0 total
far_none total answers = record { answers_are = refl; samples_are = refl; touched_is = omega arith }

pub far_more : {total left next : After} {answers : List ℕ} {count touched a : ℕ} (t : ℕ) → SoFar total answers count touched left → left ≡ and_then a t next → count < length answers
    → SoFar total (set answers count a) (count + 1) (touched + t) next
far_more {total} {left} {next} {answers} {count} {touched} {a} t f e h =
    record {
      answers_are =
          f.answers_are ∙ ap (λ (l : After). take count answers ++ l.answers) e
          ∙ sym (append_assoc (take count answers) (a ∷ []) next.answers)
          ∙ ap (λ (l : List ℕ). l ++ next.answers) (sym (take-suc-set answers count a h))
          ∙ rw add-one;
      samples_are = f.samples_are ∙ ap (λ (l : After). l.samples) e;
      touched_is = omega (arith, f.touched_is, ap (λ (l : After). l.touched) e);
    }

pub far_done : {total left : After} {answers samples : List ℕ} {count touched : ℕ} → SoFar total answers count touched left → left ≡ no_record samples → SoFar total answers count touched (no_record samples)
far_done {total} {left} {answers} {samples} {count} {touched} f e = rw e at f

-- how far the place and the counts go: a whole record takes 75 bytes at least, and four bytes a token
pub record Placed (s : List ℕ) (count touched at : ℕ) : Type 0 where
  pub within : at ≤ length s
  pub few : count ≤ 874
  pub spaced : at < length s → 12 + 75 * count ≤ at
  pub touched_few : 4 * touched ≤ at

pub touched_most : (a : ℕ) (p : Plane) (head : Head) → touched_by a p head ≤ area (head.size + 2)
unfolding touched_by
touched_most a p head = go (eqb a 0)
  where
    go : (b : Bool) → cond b (written p head.x head.y (side (head.size + 2))) 0 ≤ area (head.size + 2)
    go true = written_block p head.x head.y (side (head.size + 2))
    go false = omega arith

-- a record touches a block at most
pub touched_few_at : (R : Reconstruction) (s : List ℕ) (at : ℕ) (samples : List ℕ) {r : Record} → Recorded s at r → is_found r ≡ true → touched_by (record_at R s at samples).answer (plane_of s) (head_at s at) ≤ 1024
touched_few_at R s at samples {r} d f =
    let a = (record_at R s at samples).answer in
    omega (arith, touched_head s at d R samples f, touched_most a (plane_of s) (head_in r), count_most (head_in r).size (head_size s at d))

-- and nothing where it is refused
pub none_touched : (a : ℕ) (p : Plane) (head : Head) → (a ≡ 0 → ⊥) → 0 ≡ touched_by a p head
unfolding touched_by
none_touched a p head z = rw (ne_eqb a 0 z)

-- a record that is there and is not whole is refused
pub not_whole : (r : Record) → is_found r ≡ true → ((h : Head) (c : Cursor) → r ≡ Whole h c → ⊥) → record_number r ≡ 0 → ⊥
not_whole End f n z = both_ways false refl f
not_whole (Last a) f n z = refused_number a z
not_whole (Skipped a c) f n z = refused_number a z
not_whole (Whole h c) f n z = n h c refl

-- one record more, from `at` to the place to read on from
module _ (R : Reconstruction) (s : List ℕ) (at : ℕ) (samples : List ℕ) (h : at < length s) where
  pub placed_step : {count touched : ℕ} → length s ≤ 65535 → Placed s count touched at
      → Placed s (count + 1) (touched + touched_by (record_at R s at samples).answer (plane_of s) (head_at s at)) (read_on s at)
  unfolding next_at
  placed_step {count} {touched} small q = go (ends s at) refl
    where
      go : (b : Bool) → ends s at ≡ b → Placed s (count + 1) (touched + touched_by (record_at R s at samples).answer (plane_of s) (head_at s at)) (read_on s at)
      go true e =
          let dt : touched_by (record_at R s at samples).answer (plane_of s) (head_at s at) ≡ 0 = last_touched R s at samples (plane_of s) (head_at s at) e in
          let dn : read_on s at ≡ length s = rw e in
          let sp = q.spaced h in
          record { within = omega (arith, dn); few = omega arith; spaced = λ l. absurd (omega (arith, dn)); touched_few = omega (arith, q.touched_few, dn, dt) }
      go false e =
          let dn : read_on s at ≡ next_at s at = rw e in
          let sp = q.spaced h in
          let w = there s at e in
          let least = count_least (size_at s at) w.0 in
          let most = touched_most (record_at R s at samples).answer (plane_of s) (head_at s at) in
          record { within = omega (arith, w.1, dn); few = omega arith; spaced = λ l. omega (arith, dn); touched_few = omega (arith, q.touched_few, dn) }

  -- each record moves the place on
  pub moves : at < read_on s at
  unfolding next_at
  moves = go (ends s at) refl
    where
      go : (b : Bool) → ends s at ≡ b → at < read_on s at
      go true e = let dn : read_on s at ≡ length s = rw e in omega (arith, dn)
      go false e = let dn : read_on s at ≡ next_at s at = rw e in omega (arith, dn)

-- the loop over the records: after `count` of them
pub record Reading (R : Reconstruction) (s : List ℕ) (from : ℕ) (samples₀ answers₀ samples answers : List ℕ) (at count touched : ℕ) : Type 0 where
  pub placed : Placed s count touched at
  pub far : SoFar (records R s (length s) from samples₀) answers count touched (records R s (length s - count) at samples)
  pub as_long : length answers ≡ length answers₀
  pub behind : drop count answers ≡ drop count answers₀

module _ (R : Reconstruction) (s : List ℕ) (from : ℕ) (samples₀ answers₀ : List ℕ) where
  pub reading_none : 12 ≤ from → from ≤ length s → Reading R s from samples₀ answers₀ samples₀ answers₀ from 0 0
  reading_none l h =
      record {
        placed = record { within = h; few = omega arith; spaced = λ _. omega arith; touched_few = omega arith };
        far = rw (N.sub-zero (length s)) (far_none (records R s (length s) from samples₀) answers₀);
        as_long = refl;
        behind = refl;
      }

  module _ {samples answers : List ℕ} {at count touched : ℕ} (g : Reading R s from samples₀ answers₀ samples answers at count touched) where
    pub reading_room : length s ≤ 65535 → 874 ≤ length answers₀ → at < length s → count < length answers
    reading_room small room h = omega (arith, g.placed.spaced h, g.as_long)

    pub reading_more : {samples' answers' : List ℕ} {count' touched' : ℕ} → length s ≤ 65535 → 874 ≤ length answers₀ → at < length s → Stepped R s at samples answers count touched samples' answers' count' touched'
        → Reading R s from samples₀ answers₀ samples' answers' (read_on s at) count' touched'
    reading_more {samples'} {answers'} {count'} {touched'} small room h d =
        let k : length s - count ≡ suc (length s - (count + 1)) = omega (arith, g.placed.spaced h) in
        let a = (record_at R s at samples).answer in
        let t = touched_by a (plane_of s) (head_at s at) in
        let p = placed_step R s at samples h small g.placed in
        rw (d.count_is, d.touched_is, d.answers_are, d.samples_are)
        (record {
          placed = p;
          far =
              far_more t g.far (ap (λ (k : ℕ). records R s k at samples) k ∙ records_more R s (length s - (count + 1)) at samples h)
              (reading_room small room h);
          as_long = length-set answers count a ∙ g.as_long;
          behind =
              drop-set-lt (count + 1) answers count a (omega arith) ∙ sym (drop-drop 1 count answers) ∙ ap (drop 1) g.behind ∙ drop-drop 1 count answers₀;
        })

    pub reading_done : length s ≤ 65535 → 874 ≤ length answers₀ → length s ≤ at → Ran (records R s (length s) from samples₀) count touched answers₀ answers samples
    reading_done small room h =
        let f = far_done g.far (records_none R s (length s - count) at samples h) in
        let a : (records R s (length s) from samples₀).answers ≡ take count answers = f.answers_are ∙ append-nil (take count answers) in
        record {
          count_is = sym (ap length a ∙ length-take-le count answers (omega (arith, g.placed.few, g.as_long)));
          touched_is = omega (arith, f.touched_is);
          answers_are = sym (ap (λ (l : List ℕ). l ++ drop count answers₀) a ∙ ap (λ (l : List ℕ). take count answers ++ l) (sym g.behind) ∙ take-append-drop count answers);
          samples_are = sym f.samples_are;
          count_most = g.placed.few;
          touched_most = omega (arith, g.placed.touched_few, g.placed.within);
        }
