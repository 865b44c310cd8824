-- The header of a VBK file: "VBK", u16 version, u8 depth, u16 width, u16 height; then width × height samples of u16, row by row.
use Rattle.std.specs.Prelude.{◌≡◌, Bool, not, ◌&&◌, ◌||◌, List, [], ◌∷◌, ℕ, ◌+◌, ◌*◌, ltb, eqb, length, Result, Ok, Err, IfOk}
use Rattle.whole.specs.Lists.{tabulate}
use Rattle.answers.specs.Answers.{refusal_number, lowest}
use Rattle.answers.specs.declared.Refusal.{Refusal}
use Rattle.answers.specs.Limits.{FILE_LIMIT, AREA_LIMIT}
use Rattle.answers.specs.Bad.{bad_depth}
use Rattle.vbk_read.specs.Bytes.{le1, le2}
use Rattle.vbk_read.specs.declared.Fields.{Fields}

-- bytes of the header before the samples
abbrev pub HEADER_BYTES : ℕ
HEADER_BYTES = 10

-- the version: two bytes at 3
abbrev pub version_of : List ℕ → ℕ
version_of s = le2 s 3

-- the depth: one byte at 5
abbrev pub depth_of : List ℕ → ℕ
depth_of s = le1 s 5

-- the width: two bytes at 6
abbrev pub width_of : List ℕ → ℕ
width_of s = le2 s 6

-- the height: two bytes at 8
abbrev pub height_of : List ℕ → ℕ
height_of s = le2 s 8

-- how many samples the plane has
abbrev pub plane_area : List ℕ → ℕ
plane_area s = width_of s * height_of s

-- sample k of those from a place on
unfoldable pub sample_at : List ℕ → ℕ → ℕ → ℕ
sample_at s at k = le2 s (at + 2 * k)

-- the samples as the file has them
unfoldable pub samples_of : List ℕ → List ℕ
samples_of s = tabulate (sample_at s HEADER_BYTES) (plane_area s)

-- the place of the first record
abbrev pub first_record : List ℕ → ℕ
first_record s = HEADER_BYTES + 2 * plane_area s

-- the mark, "VBK"
unfoldable pub marked : List ℕ → Bool
marked s = eqb (le1 s 0) 86 && (eqb (le1 s 1) 66 && eqb (le1 s 2) 75)

-- width × height is not 1 to 4,096
unfoldable pub bad_area : ℕ → Bool
bad_area area = eqb area 0 || ltb AREA_LIMIT area

-- the header's checks, in the file's own order
unfoldable pub header_answer : List ℕ → ℕ
header_answer s =
    lowest
    ((13, ltb FILE_LIMIT (length s))
    ∷ (12, ltb (length s) HEADER_BYTES)
    ∷ (10, not (marked s))
    ∷ (11, not (eqb (version_of s) 1))
    ∷ (1, bad_depth (depth_of s))
    ∷ (13, bad_area (plane_area s))
    ∷ (12, ltb (length s) (first_record s))
    ∷ [])

-- what the header says, and the place past it
abbrev pub fields_of : List ℕ → Fields
fields_of s =
    record {
      version = version_of s;
      depth = depth_of s;
      width = width_of s;
      height = height_of s;
      next = record { at = HEADER_BYTES };
    }

-- the number of what is read: 0, or that of its refusal
abbrev pub number_in : {A : Type 0} → Result A Refusal → ℕ
number_in (Ok _) = 0
number_in (Err refusal) = refusal_number refusal

-- the header read: what it says, or its refusal
pub record Headed (s : List ℕ) (h : Result Fields Refusal) : Type 0 where
  pub answered : number_in h ≡ header_answer s
  pub fields_are : IfOk h (λ f. f ≡ fields_of s)
