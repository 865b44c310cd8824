-- The VBK file's answers: each number is given when, and only when, its step is the first whose condition holds.
use Rattle.std.specs.Prelude.{Result}
use Rattle.answers.specs.declared.Refusal.{Refusal}
use mathlib.Core.Path.{◌≡◌, refl, sym, ap, subst, ◌∙◌}
use mathlib.Core.Bool.{Bool, true, false, not, cond, ◌&&◌, ◌||◌}
use mathlib.Core.List.{List, [], ◌∷◌}
use Prim.Native.Nat.{ℕ, suc, ◌+◌, ◌≤◌, ◌<◌}
use native.Mathlib.Omega.{arith}
use borrow.Author.Tests.{ltb-true, ltb-false, eqb-true, lt-ltb, le-ltb, eq-eqb, leb-false, lt-leb}
use lib.Dec.{leb, ltb, eqb}
use lib.ListN.{length}
use Rattle.answers.specs.Answers.{lowest}
use Rattle.answers.specs.Limits.{FILE_LIMIT, AREA_LIMIT}
use Rattle.answers.specs.Bad.{bad_depth, bad_size}
use Rattle.answers.proofs.Numbers.{Applies, there}
use Rattle.vbk_read.specs.Bytes.{le1}
use Rattle.vbk_read.specs.Header.{HEADER_BYTES, version_of, depth_of, plane_area, first_record, marked, bad_area, header_answer, number_in, Headed}
use Rattle.vbk_read.specs.Records.{HEAD_BYTES, size_at, lossless_at, next_at, found, end_answer, ends, check_answer, is_found, is_last, record_number, Recorded}
use Rattle.vbk_read.specs.declared.Fields.{Fields}
use Rattle.vbk_read.specs.declared.Record.{Record}
use Rattle.vbk.specs.Replay.{RECORD_LIMIT}
use Rattle.vbk.specs.Promises.{roomy, run_answer, Replayed}
use Rattle.vbk.specs.declared.Run.{Run}
use Rattle.vbk_report.specs.Promises.{ReplayedReport}
use Rattle.promises.specs.Exactly.{InOrder}
use Rattle.promises.specs.When as W
use Rattle.promises.proofs.Exactly.{Each, none, more, here_if, in_order, renumber, later, each_later}
use Rattle.promises.proofs.Tests as T

-- ---- the header
not_marked : (s : List ℕ) → not (marked s) ≡ true → le1 s 0 ≡ 86 → le1 s 1 ≡ 66 → le1 s 2 ≡ 75 → ⊥
unfolding marked
not_marked s h a b c = T.never (rw (eq-eqb (le1 s 0) 86 a, eq-eqb (le1 s 1) 66 b, eq-eqb (le1 s 2) 75 c) at h)

mark_test : (s : List ℕ) → (le1 s 0 ≡ 86 → le1 s 1 ≡ 66 → le1 s 2 ≡ 75 → ⊥) → not (marked s) ≡ true
unfolding marked
mark_test s h = go (eqb (le1 s 0) 86) (eqb (le1 s 1) 66) (eqb (le1 s 2) 75) refl refl refl
  where
    go : (x y z : Bool) → eqb (le1 s 0) 86 ≡ x → eqb (le1 s 1) 66 ≡ y → eqb (le1 s 2) 75 ≡ z
        → not (eqb (le1 s 0) 86 && (eqb (le1 s 1) 66 && eqb (le1 s 2) 75)) ≡ true
    go false y z p q r = rw p
    go true false z p q r = rw (p, q)
    go true true false p q r = rw (p, q, r)
    go true true true p q r = absurd (h (eqb-true (le1 s 0) 86 p) (eqb-true (le1 s 1) 66 q) (eqb-true (le1 s 2) 75 r))

no_area : (s : List ℕ) → bad_area (plane_area s) ≡ true → W.Header s 6
unfolding bad_area
no_area s h =
    T.or_true (eqb (plane_area s) 0) (ltb AREA_LIMIT (plane_area s)) (λ e. W.empty (eqb-true (plane_area s) 0 e)) (λ e. W.wide (ltb-true AREA_LIMIT (plane_area s) e)) h

empty_test : (s : List ℕ) → plane_area s ≡ 0 → bad_area (plane_area s) ≡ true
unfolding bad_area
empty_test s h = T.left (eqb (plane_area s) 0) (ltb AREA_LIMIT (plane_area s)) (eq-eqb (plane_area s) 0 h)

area_test : (s : List ℕ) → AREA_LIMIT < plane_area s → bad_area (plane_area s) ≡ true
unfolding bad_area
area_test s h = T.right (eqb (plane_area s) 0) (ltb AREA_LIMIT (plane_area s)) (lt-ltb AREA_LIMIT (plane_area s) h)

abbrev header_steps : List ℕ → List (ℕ × Bool)
header_steps s =
    (1, ltb FILE_LIMIT (length s))
    ∷ (2, ltb (length s) HEADER_BYTES)
    ∷ (3, not (marked s))
    ∷ (4, not (eqb (version_of s) 1))
    ∷ (5, bad_depth (depth_of s))
    ∷ (6, bad_area (plane_area s))
    ∷ (7, ltb (length s) (first_record s))
    ∷ []

header_each : (s : List ℕ) → Each (W.Header s) (header_steps s)
header_each s =
    more (λ e. W.large (ltb-true FILE_LIMIT (length s) e))
    (more (λ e. W.short (ltb-true (length s) HEADER_BYTES e))
    (more (λ e. W.mark (not_marked s e))
    (more (λ e. W.version (T.differ (version_of s) 1 e))
    (more (λ e. W.depth (T.no_depth (depth_of s) e)) (more (no_area s) (more (λ e. W.samples (ltb-true (length s) (first_record s) e)) none))))))

header_has : (s : List ℕ) (n : ℕ) → W.Header s n → Applies n (header_steps s)
header_has s n (W.large h) = here_if 1 _ _ (lt-ltb FILE_LIMIT (length s) h)
header_has s n (W.short h) = there (here_if 2 _ _ (lt-ltb (length s) HEADER_BYTES h))
header_has s n (W.mark h) = there (there (here_if 3 _ _ (mark_test s h)))
header_has s n (W.version h) = there (there (there (here_if 4 _ _ (T.differs (version_of s) 1 h))))
header_has s n (W.depth h) = there (there (there (there (here_if 5 _ _ (T.depth_test (depth_of s) h)))))
header_has s n (W.empty h) = there (there (there (there (there (here_if 6 _ _ (empty_test s h))))))
header_has s n (W.wide h) = there (there (there (there (there (here_if 6 _ _ (area_test s h))))))
header_has s n (W.samples h) = there (there (there (there (there (there (here_if 7 _ _ (lt-ltb (length s) (first_record s) h)))))))

header_order : (s : List ℕ) → InOrder (W.Header s) W.header_numbers (header_answer s)
unfolding header_answer
header_order s = in_order (W.Header s) W.header_numbers (header_steps s) refl tt (header_each s) (header_has s)

-- `read_header`
pub header_when : (s : List ℕ) (h : Result Fields Refusal) → Headed s h → InOrder (W.Header s) W.header_numbers (number_in h)
header_when s h p = subst (λ (n : ℕ). InOrder (W.Header s) W.header_numbers n) (sym p.answered) (header_order s)

-- ---- a record
abbrev record_steps : List ℕ → ℕ → List (ℕ × Bool)
record_steps s at =
    (1, not (found s at))
    ∷ (2, ltb (length s) (at + HEAD_BYTES))
    ∷ (3, bad_size (size_at s at))
    ∷ (4, ltb (length s) (next_at s at))
    ∷ (5, ltb 1 (lossless_at s at))
    ∷ []

nothing_left : (s : List ℕ) (at : ℕ) → not (found s at) ≡ true → length s ≤ at
nothing_left s at e = ltb-false at (length s) (T.not_true (found s at) e)

record_each : (s : List ℕ) (at : ℕ) → Each (W.Record s at) (record_steps s at)
record_each s at =
    more (λ e. W.Record.none (nothing_left s at e))
    (more (λ e. W.Record.head (ltb-true (length s) (at + HEAD_BYTES) e))
    (more (λ e. W.Record.size (ltb-true 3 (size_at s at) e))
    (more (λ e. W.Record.tokens (ltb-true (length s) (next_at s at) e)) (more (λ e. W.lossless (ltb-true 1 (lossless_at s at) e)) none))))

record_has : (s : List ℕ) (at n : ℕ) → W.Record s at n → Applies n (record_steps s at)
record_has s at n (W.Record.none h) = here_if 1 _ _ (ap not (le-ltb at (length s) h))
record_has s at n (W.Record.head h) = there (here_if 2 _ _ (lt-ltb (length s) (at + HEAD_BYTES) h))
record_has s at n (W.Record.size h) = there (there (here_if 3 _ _ (lt-ltb 3 (size_at s at) h)))
record_has s at n (W.Record.tokens h) = there (there (there (here_if 4 _ _ (lt-ltb (length s) (next_at s at) h))))
record_has s at n (W.lossless h) = there (there (there (there (here_if 5 _ _ (lt-ltb 1 (lossless_at s at) h)))))

-- the end of the file, the checks that end the reading, then the lossless byte: one table
joined : (f a b c d : Bool)
    → cond f (cond (not (eqb (lowest ((12, a) ∷ (2, b) ∷ (12, c) ∷ [])) 0)) (lowest ((12, a) ∷ (2, b) ∷ (12, c) ∷ [])) (lowest ((14, d) ∷ []))) 0
    ≡ lowest ((0, not f) ∷ (12, a) ∷ (2, b) ∷ (12, c) ∷ (14, d) ∷ [])
joined false a b c d = refl
joined true true b c d = refl
joined true false true c d = refl
joined true false false true d = refl
joined true false false false d = refl

check_is : (s : List ℕ) (at : ℕ)
    → check_answer s at ≡ lowest ((0, not (found s at)) ∷ (12, ltb (length s) (at + HEAD_BYTES)) ∷ (2, bad_size (size_at s at)) ∷ (12, ltb (length s) (next_at s at)) ∷ (14, ltb 1 (lossless_at s at)) ∷ [])
unfolding check_answer end_answer
check_is s at = joined (found s at) (ltb (length s) (at + HEAD_BYTES)) (bad_size (size_at s at)) (ltb (length s) (next_at s at)) (ltb 1 (lossless_at s at))

record_order : (s : List ℕ) (at : ℕ) → InOrder (W.Record s at) W.record_numbers (check_answer s at)
record_order s at =
    subst (λ (n : ℕ). InOrder (W.Record s at) W.record_numbers n) (sym (check_is s at))
    (in_order (W.Record s at) W.record_numbers (record_steps s at) refl tt (record_each s at) (record_has s at))

-- what a reader finds at its place: the answer
pub record_when : (s : List ℕ) (at : ℕ) (r : Record) → Recorded s at r → InOrder (W.Record s at) W.record_numbers (record_number r)
record_when s at r p = subst (λ (n : ℕ). InOrder (W.Record s at) W.record_numbers n) (sym p.answered) (record_order s at)

-- there is a further record when, and only when, a byte is left
pub found_when : (s : List ℕ) (at : ℕ) (r : Record) → Recorded s at r → (at < length s → is_found r ≡ true) × (is_found r ≡ true → at < length s)
found_when s at r p = (λ h. p.found_is ∙ lt-ltb at (length s) h, λ e. ltb-true at (length s) (sym p.found_is ∙ e))

-- the reading ends when, and only when, no byte is left or the record is cut short or of no size
some_of : (a b c : Bool) → not (eqb (lowest ((12, a) ∷ (2, b) ∷ (12, c) ∷ [])) 0) ≡ a || (b || c)
some_of true b c = refl
some_of false true c = refl
some_of false false true = refl
some_of false false false = refl

ends_are : (s : List ℕ) (at : ℕ) → ends s at ≡ ltb (length s) (at + HEAD_BYTES) || (bad_size (size_at s at) || ltb (length s) (next_at s at))
unfolding end_answer
ends_are s at = some_of (ltb (length s) (at + HEAD_BYTES)) (bad_size (size_at s at)) (ltb (length s) (next_at s at))

ends_if : (s : List ℕ) (at : ℕ) → W.Ends s at → ends s at ≡ true
ends_if s at (W.Ends.none h) = ends_are s at ∙ T.left _ _ (lt-ltb (length s) (at + HEAD_BYTES) (omega (arith, h)))
ends_if s at (W.Ends.head h) = ends_are s at ∙ T.left _ _ (lt-ltb (length s) (at + HEAD_BYTES) h)
ends_if s at (W.Ends.size h) = ends_are s at ∙ T.right (ltb (length s) (at + HEAD_BYTES)) _ (T.left _ _ (lt-ltb 3 (size_at s at) h))
ends_if s at (W.Ends.tokens h) = ends_are s at ∙ T.right (ltb (length s) (at + HEAD_BYTES)) _ (T.right (bad_size (size_at s at)) _ (lt-ltb (length s) (next_at s at) h))

ends_only : (s : List ℕ) (at : ℕ) → ends s at ≡ true → W.Ends s at
ends_only s at e =
    T.or_true (ltb (length s) (at + HEAD_BYTES)) (bad_size (size_at s at) || ltb (length s) (next_at s at)) (λ q. W.Ends.head (ltb-true (length s) (at + HEAD_BYTES) q))
    (T.or_true (bad_size (size_at s at)) (ltb (length s) (next_at s at)) (λ q. W.Ends.size (ltb-true 3 (size_at s at) q)) (λ q. W.Ends.tokens (ltb-true (length s) (next_at s at) q)))
    (sym (ends_are s at) ∙ e)

pub ends_when : (s : List ℕ) (at : ℕ) (r : Record) → Recorded s at r → (W.Ends s at → is_last r ≡ true) × (is_last r ≡ true → W.Ends s at)
ends_when s at r p = (λ h. p.ends_is ∙ ends_if s at h, λ e. ends_only s at (sym p.ends_is ∙ e))

-- ---- a run
run_room : (s samples answers : List ℕ) → not (roomy samples answers) ≡ true → W.Run s samples answers 1
unfolding roomy
run_room s samples answers h = go (leb AREA_LIMIT (length samples)) (leb RECORD_LIMIT (length answers)) refl refl
  where
    go : (x y : Bool) → leb AREA_LIMIT (length samples) ≡ x → leb RECORD_LIMIT (length answers) ≡ y → W.Run s samples answers 1
    go false y p q = W.plane_room (leb-false AREA_LIMIT (length samples) p)
    go true false p q = W.answers_room (leb-false RECORD_LIMIT (length answers) q)
    go true true p q = T.never (rw (p, q) at h)

plane_test : (samples answers : List ℕ) → length samples < AREA_LIMIT → not (roomy samples answers) ≡ true
unfolding roomy
plane_test samples answers h = rw (lt-leb AREA_LIMIT (length samples) h)

answers_test : (samples answers : List ℕ) → length answers < RECORD_LIMIT → not (roomy samples answers) ≡ true
unfolding roomy
answers_test samples answers h = rw (lt-leb RECORD_LIMIT (length answers) h) (not_and (leb AREA_LIMIT (length samples)))
  where
    not_and : (b : Bool) → not (b && false) ≡ true
    not_and true = refl
    not_and false = refl

abbrev run_steps : List ℕ → List ℕ → List ℕ → List (ℕ × Bool)
run_steps s samples answers = (1, not (roomy samples answers)) ∷ renumber suc (header_steps s)

run_has : (s samples answers : List ℕ) (n : ℕ) → W.Run s samples answers n → Applies n (run_steps s samples answers)
run_has s samples answers n (W.plane_room h) = here_if 1 _ _ (plane_test samples answers h)
run_has s samples answers n (W.answers_room h) = here_if 1 _ _ (answers_test samples answers h)
run_has s samples answers n (W.header {k = k} h) = there (later k (header_steps s) (header_has s k h))

run_is : (b : Bool) (r : ℕ) → cond b r 6 ≡ cond (not b) 6 r
run_is true r = refl
run_is false r = refl

run_order : (s samples answers : List ℕ) → InOrder (W.Run s samples answers) W.run_numbers (run_answer s samples answers)
unfolding run_answer header_answer
run_order s samples answers =
    subst (λ (n : ℕ). InOrder (W.Run s samples answers) W.run_numbers n) (sym (run_is (roomy samples answers) (header_answer s)))
    (in_order (W.Run s samples answers) W.run_numbers (run_steps s samples answers) refl tt
    (more (run_room s samples answers) (each_later (W.Header s) (W.Run s samples answers) (header_steps s) (λ k h. W.header h) (header_each s)))
    (run_has s samples answers))

-- `replay`
pub run_when : (s samples answers : List ℕ) (r : Result Run Refusal) (samples' answers' : List ℕ) → Replayed s samples answers r samples' answers'
    → InOrder (W.Run s samples answers) W.run_numbers (number_in r)
run_when s samples answers r samples' answers' p =
    subst (λ (n : ℕ). InOrder (W.Run s samples answers) W.run_numbers n) (sym p.answered) (run_order s samples answers)

-- `replay_report`: the same numbers, whatever its records are answered
pub report_run_when : (s samples answers counts sums : List ℕ) (r : Result Run Refusal) (samples' answers' counts' sums' : List ℕ) → ReplayedReport s samples answers counts sums r samples' answers' counts' sums'
    → InOrder (W.Run s samples answers) W.run_numbers (number_in r)
report_run_when s samples answers counts sums r samples' answers' counts' sums' p =
    subst (λ (n : ℕ). InOrder (W.Run s samples answers) W.run_numbers n) (sym p.answered) (run_order s samples answers)
