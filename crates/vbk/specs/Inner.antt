-- What only the contracts inside this crate read.
use Rattle.std.specs.Prelude.{◌≡◌, List, ◌++◌, ℕ, ◌+◌, ◌*◌, ◌≤◌, length, take, drop, set}
use Rattle.answers.specs.Limits.{FILE_LIMIT}
use Rattle.vbk_read.specs.Records.{head_at}
use Rattle.vbk_text.specs.Text.{Outcome, ran}
use Rattle.vbk.specs.Replay.{Reconstruction, After, RECORD_LIMIT, touched_by, plane_of, record_at}
use Rattle.vbk.specs.declared.Run.{Run}

-- one record more: its answer is kept and counted, its touched count added, and the samples are as it leaves them
pub record Stepped (R : Reconstruction) (s : List ℕ) (at : ℕ) (samples answers : List ℕ) (count touched : ℕ) (samples' answers' : List ℕ) (count' touched' : ℕ) : Type 0 where
  pub count_is : count' ≡ count + 1
  pub touched_is : touched' ≡ touched + touched_by (record_at R s at samples).answer (plane_of s) (head_at s at)
  pub answers_are : answers' ≡ set answers count (record_at R s at samples).answer
  pub samples_are : samples' ≡ (record_at R s at samples).samples

-- the records' outcome as the code hands it back: how many they are, the touched count, the answers at the front of the room for them, and the samples.
-- The last two lines say how large the counts can be
pub record Ran (a : After) (count touched : ℕ) (room answers samples : List ℕ) : Type 0 where
  pub count_is : count ≡ length a.answers
  pub touched_is : touched ≡ a.touched
  pub answers_are : answers ≡ a.answers ++ drop count room
  pub samples_are : samples ≡ a.samples
  pub count_most : count ≤ RECORD_LIMIT
  pub touched_most : 4 * touched ≤ FILE_LIMIT

-- what is printed of a run that is not refused, from what it left behind
abbrev pub outcome_of : Run → List ℕ → List ℕ → Outcome
outcome_of r samples answers =
    ran r.fields.version r.fields.depth r.fields.width r.fields.height (take r.count answers) (take (r.fields.width * r.fields.height) samples) r.touched
