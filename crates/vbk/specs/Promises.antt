-- What the two calls promise: a run's outcome, and its text.
use Rattle.std.specs.Prelude.{◌≡◌, Bool, cond, ◌&&◌, List, ◌++◌, ℕ, ◌*◌, ◌≤◌, leb, eqb, length, take, drop, Result, IfOk}
use Rattle.answers.specs.declared.Refusal.{Refusal}
use Rattle.answers.specs.Limits.{AREA_LIMIT, FILE_LIMIT}
use Rattle.vbk_read.specs.Header.{plane_area, samples_of, first_record, header_answer, fields_of, number_in}
use Rattle.vbk_text.specs.Text.{text, TEXT_LIMIT}
use Rattle.vbk.specs.Replay.{Reconstruction, RECORD_LIMIT, After, records, records_of, replay}
use Rattle.vbk.specs.Filled.{reconstruction}
use Rattle.vbk.specs.declared.Run.{Run}

-- the records of a file, each block reconstructed by R, from a list on
abbrev pub run_by : Reconstruction → (s samples : List ℕ) → After
run_by R s samples = records R s (length s) (first_record s) samples

-- the records of a file
abbrev pub run_of : List ℕ → After
run_of s = records_of reconstruction s

-- the lent rooms hold any run's plane and answers
unfoldable pub roomy : List ℕ → List ℕ → Bool
roomy samples answers = leb AREA_LIMIT (length samples) && leb RECORD_LIMIT (length answers)

-- 6 where a lent room is too short; then the header's answer
unfoldable pub run_answer : List ℕ → List ℕ → List ℕ → ℕ
run_answer s samples answers = cond (roomy samples answers) (header_answer s) 6

-- the samples after the run at the front of the room for them
abbrev pub samples_for : List ℕ → List ℕ → List ℕ
samples_for s samples = (run_of s).samples ++ drop (plane_area s) samples

-- every record's answer at the front of the room for the answers
abbrev pub answers_for : List ℕ → List ℕ → List ℕ
answers_for s answers = (run_of s).answers ++ drop (length (run_of s).answers) answers

-- what a run that is not refused tells: the header, how many records there are and the touched count. The last two lines say how large these can be
pub record Tells (s : List ℕ) (a : After) (r : Run) : Type 0 where
  pub fields_are : r.fields ≡ fields_of s
  pub count_is : r.count ≡ length a.answers
  pub touched_is : r.touched ≡ a.touched
  pub count_most : r.count ≤ RECORD_LIMIT
  pub touched_most : 4 * r.touched ≤ FILE_LIMIT

-- the outcome of a run whose blocks are reconstructed by R, and which keeps b beside the samples: under a refusal its number, and nothing changed
pub record Played {B : Type 0} (R : Reconstruction) (beside : List ℕ → B → List ℕ) (s samples answers : List ℕ) (b : B) (r : Result Run Refusal) (samples' answers' : List ℕ) (b' : B) : Type 0 where
  pub answered : number_in r ≡ run_answer s samples answers
  pub told : IfOk r (Tells s (run_by R s (beside (samples_of s) b)))
  pub answers_are : answers' ≡ cond (eqb (run_answer s samples answers) 0) ((run_by R s (beside (samples_of s) b)).answers ++ drop (length (run_by R s (beside (samples_of s) b)).answers) answers) answers
  pub samples_are : samples' ≡ cond (eqb (run_answer s samples answers) 0) (take (plane_area s) samples' ++ drop (plane_area s) samples) samples
  pub beside_is : run_answer s samples answers ≡ 0 → beside (take (plane_area s) samples') b' ≡ (run_by R s (beside (samples_of s) b)).samples
  pub beside_stays : (run_answer s samples answers ≡ 0 → ⊥) → b' ≡ b

-- the outcome: under a refusal its number, and nothing changed
pub record Replayed (s samples answers : List ℕ) (r : Result Run Refusal) (samples' answers' : List ℕ) : Type 0 where
  pub answered : number_in r ≡ run_answer s samples answers
  pub told : IfOk r (Tells s (run_of s))
  pub samples_are : samples' ≡ cond (eqb (run_answer s samples answers) 0) (samples_for s samples) samples
  pub answers_are : answers' ≡ cond (eqb (run_answer s samples answers) 0) (answers_for s answers) answers

-- the lent rooms hold any run's plane, answers and text
unfoldable pub printable : List ℕ → List ℕ → List ℕ → Bool
printable samples answers out = roomy samples answers && leb TEXT_LIMIT (length out)

-- the text of a file's run
abbrev pub printed : List ℕ → List ℕ
printed s = text (replay reconstruction s)

-- the text stands at the front of the room lent for it; where a room is too short, there is no text and nothing changes.
-- The last two lines follow, and stand here for whoever writes `&out[..r]`
pub record Printed (s samples answers out : List ℕ) (r : ℕ) (samples' answers' out' : List ℕ) : Type 0 where
  pub length_is : r ≡ cond (printable samples answers out) (length (printed s)) 0
  pub text_is : out' ≡ cond (printable samples answers out) (printed s ++ drop (length (printed s)) out) out
  pub samples_are : samples' ≡ cond (printable samples answers out && eqb (header_answer s) 0) (samples_for s samples) samples
  pub answers_are : answers' ≡ cond (printable samples answers out && eqb (header_answer s) 0) (answers_for s answers) answers
  pub within : r ≤ length out'
  pub counted : r ≡ length (take r out')
