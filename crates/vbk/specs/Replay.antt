-- A run over a VBK file: the header, then record after record until there is no further one. s is the file's bytes; reconstruction R is a parameter.
use Rattle.std.specs.Prelude.{Bool, cond, List, [], ◌∷◌, ℕ, zero, suc, ◌+◌, ltb, eqb, ℤ, pos, length}
use Rattle.plane.specs.declared.Plane.{Plane}
use Rattle.vbk_read.specs.Header.{version_of, depth_of, width_of, height_of, samples_of, first_record, header_answer}
use Rattle.vbk_read.specs.declared.Fields.{Fields}
use Rattle.vbk_read.specs.declared.Head.{Head}
use Rattle.vbk_read.specs.Records.{size_at, lossless_at, head_at, tokens_at, found, end_answer, ends, read_on}
use Rattle.vbk_text.specs.Text.{Outcome, refused, ran}
unfoldable pub use Rattle.touched.specs.Touched.{touched_by}

-- an answer's number, and the samples afterwards
pub record Rebuilt : Type 0 where
  pub answer : ℕ
  pub samples : List ℕ

-- what a record does to a plane's samples
abbrev pub Reconstruction : Type 0
Reconstruction = (samples : List ℕ) (width height x y size : ℕ) (tokens : List ℤ) (dc ac : ℤ) (tx_type : ℕ) (lossless : Bool) (depth : ℕ) → Rebuilt

-- reconstruction with the numbers of a header and of a record's head
abbrev pub block_of : Reconstruction → Fields → Head → List ℤ → List ℕ → Rebuilt
block_of R f h tokens samples =
    R samples f.width f.height h.x h.y h.size tokens (pos h.dc) (pos h.ac) h.tx_type (eqb h.lossless 1) f.depth

-- every record's answer in order, the samples afterwards and the touched count
pub record After : Type 0 where
  pub answers : List ℕ
  pub samples : List ℕ
  pub touched : ℕ

-- no record is left: the samples as they are
abbrev pub no_record : List ℕ → After
no_record samples = record { answers = []; samples = samples; touched = 0 }

-- one record's answer and touched count, and then the others'
abbrev pub and_then : ℕ → ℕ → After → After
and_then answer touched rest =
    record { answers = answer ∷ rest.answers; samples = rest.samples; touched = touched + rest.touched }

-- no file has more records: the first one stands at byte 12 or later, and all but the last take 75 bytes or more
abbrev pub RECORD_LIMIT : ℕ
RECORD_LIMIT = 874

-- the plane of a file: its lines have no padding
abbrev pub plane_of : List ℕ → Plane
plane_of s = record { width = width_of s; height = height_of s; stride = width_of s }

module _ (R : Reconstruction) (s : List ℕ) where
  -- reconstruction with the numbers of the record at a place
  unfoldable pub rebuild_at : ℕ → List ℕ → Rebuilt
  rebuild_at at samples =
      R samples (width_of s) (height_of s) (head_at s at).x (head_at s at).y (size_at s at) (tokens_at s at) (pos (head_at s at).dc) (pos (head_at s at).ac) (head_at s at).tx_type (eqb (lossless_at s at) 1) (depth_of s)

  -- a whole record: a lossless byte above 1 is 14; then reconstruction's own answer
  unfoldable pub rebuilt_at : ℕ → List ℕ → Rebuilt
  rebuilt_at at samples = cond (ltb 1 (lossless_at s at)) (record { answer = 14; samples = samples }) (rebuild_at at samples)

  -- a record: one that is cut short or of no size has its answer, and nothing is rebuilt
  unfoldable pub record_at : ℕ → List ℕ → Rebuilt
  record_at at samples = cond (ends s at) (record { answer = end_answer s at; samples = samples }) (rebuilt_at at samples)

  -- the records from a place on, k of them at most, until none is there
  unfoldable pub records : ℕ → ℕ → List ℕ → After
  records zero at samples = no_record samples
  records (suc k) at samples =
      cond (found s at)
      (and_then (record_at at samples).answer (touched_by (record_at at samples).answer (plane_of s) (head_at s at)) (records k (read_on s at) (record_at at samples).samples))
      (no_record samples)

  -- a file has fewer records than bytes
  unfoldable pub records_of : After
  records_of = records (length s) (first_record s) (samples_of s)

  -- the outcome: a refusal's number, or all that the run gives
  unfoldable pub replay : Outcome
  replay =
      cond (eqb (header_answer s) 0)
      (ran (version_of s) (depth_of s) (width_of s) (height_of s) records_of.answers records_of.samples records_of.touched)
      (refused (header_answer s))
