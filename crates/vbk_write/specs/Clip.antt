-- What a VBK file says: the header's numbers, the samples and the records; and the bytes that say it.
use Rattle.std.specs.Prelude.{Bool, true, cond, ◌&&◌, List, [], ◌∷◌, ℕ, zero, suc, eqb, ℤ, length}
use Rattle.whole.specs.Steps.{◌⨾◌}
use Rattle.vbk_read.specs.Header.{depth_of, width_of, height_of, samples_of, first_record, header_answer}
use Rattle.vbk_read.specs.Records.{head_at, tokens_at, found, ends, check_answer, read_on}
use Rattle.vbk_write.specs.Bytes.{one, two, four, joined}

-- a record: the numbers of its head in the file's order, and its tokens
pub record Entry : Type 0 where
  pub x : ℕ
  pub y : ℕ
  pub size : ℕ
  pub tx_type : ℕ
  pub lossless : ℕ
  pub dc : ℕ
  pub ac : ℕ
  pub tokens : List ℤ

-- what a file says
pub record Clip : Type 0 where
  pub depth : ℕ
  pub width : ℕ
  pub height : ℕ
  pub samples : List ℕ
  pub entries : List Entry

-- ---- read by the reader's definitions. s is the file's bytes
-- the record at a place
abbrev pub entry_at : List ℕ → ℕ → Entry
entry_at s at =
    record {
      x = (head_at s at).x;
      y = (head_at s at).y;
      size = (head_at s at).size;
      tx_type = (head_at s at).tx_type;
      lossless = (head_at s at).lossless;
      dc = (head_at s at).dc;
      ac = (head_at s at).ac;
      tokens = tokens_at s at;
    }

-- the whole records from a place on, k of them at most, until the reading ends
unfoldable pub entries_from : List ℕ → ℕ → ℕ → List Entry
entries_from s zero at = []
entries_from s (suc k) at = cond (ends s at) [] (entry_at s at ∷ entries_from s k (read_on s at))

-- what the file says; a file has fewer records than bytes
unfoldable pub says : List ℕ → Clip
says s =
    record {
      depth = depth_of s;
      width = width_of s;
      height = height_of s;
      samples = samples_of s;
      entries = entries_from s (length s) (first_record s);
    }

-- every record from a place on passes its own checks: it is whole, its size is not above 3, its lossless byte not above 1
unfoldable pub whole_from : List ℕ → ℕ → ℕ → Bool
whole_from s zero at = true
whole_from s (suc k) at = cond (found s at) (eqb (check_answer s at) 0 && whole_from s k (read_on s at)) true

-- a good header, and every record passes its own checks
unfoldable pub whole : List ℕ → Bool
whole s = eqb (header_answer s) 0 && whole_from s (length s) (first_record s)

-- ---- and written
-- a record before its tokens
unfoldable pub head_bytes : (x y size tx_type lossless dc ac : ℕ) → List ℕ
head_bytes x y size tx_type lossless dc ac = two x ⨾ two y ⨾ one size ⨾ one tx_type ⨾ one lossless ⨾ two dc ⨾ two ac

-- a record
unfoldable pub entry_bytes : Entry → List ℕ
entry_bytes e = head_bytes e.x e.y e.size e.tx_type e.lossless e.dc e.ac ⨾ joined four e.tokens

-- the header before the samples: "VBK", version 1, depth, width and height
unfoldable pub header_bytes : ℕ → ℕ → ℕ → List ℕ
header_bytes depth width height = one 86 ⨾ one 66 ⨾ one 75 ⨾ two 1 ⨾ one depth ⨾ two width ⨾ two height

-- the file that says it
unfoldable pub bytes_of : Clip → List ℕ
bytes_of c = header_bytes c.depth c.width c.height ⨾ joined two c.samples ⨾ joined entry_bytes c.entries
