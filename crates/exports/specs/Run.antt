-- A run over a VBK file as C sees it: its figures stand in a list of numbers that is lent for them.
use Rattle.std.specs.Prelude.{◌≡◌, cond, List, [], ◌∷◌, ◌++◌, ℕ, leb, eqb, length, drop}
use Rattle.vbk_read.specs.Header.{depth_of, width_of, height_of}
use Rattle.vbk.specs.Promises.{run_of, run_answer, samples_for, answers_for}

-- how many figures a run has
abbrev pub FIGURES : ℕ
FIGURES = 5

-- the depth, width and height of the file, how many records were read, and the touched count
unfoldable pub figures : List ℕ → List ℕ
figures s = depth_of s ∷ width_of s ∷ height_of s ∷ length (run_of s).answers ∷ (run_of s).touched ∷ []

-- 6 where the room for the figures is too short; then the run's answer
unfoldable pub export_answer : List ℕ → List ℕ → List ℕ → List ℕ → ℕ
export_answer s samples answers room = cond (leb FIGURES (length room)) (run_answer s samples answers) 6

-- the answer's number, and all that was lent afterwards: as it was under a refusal
pub record RunTold (s samples answers room : List ℕ) (r : ℕ) (samples' answers' room' : List ℕ) : Type 0 where
  pub answered : r ≡ export_answer s samples answers room
  pub samples_are : samples' ≡ cond (eqb (export_answer s samples answers room) 0) (samples_for s samples) samples
  pub answers_are : answers' ≡ cond (eqb (export_answer s samples answers room) 0) (answers_for s answers) answers
  pub figures_are : room' ≡ cond (eqb (export_answer s samples answers room) 0) (figures s ++ drop FIGURES room) room
