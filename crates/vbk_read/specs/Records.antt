-- A record of a VBK file: u16 x, u16 y, u8 size, u8 type, u8 lossless, u16 DC, u16 AC, then n0² tokens of i32, row by row.
use Rattle.std.specs.Prelude.{◌≡◌, Bool, true, false, cond, not, ◌||◌, List, [], ◌∷◌, ℕ, ◌+◌, ◌*◌, ltb, eqb, ℤ, length}
use Rattle.std.specs.Borrow.{Bor}
use Rattle.whole.specs.Lists.{tabulate}
use Rattle.answers.specs.Answers.{refusal_number, lowest}
use Rattle.answers.specs.Bad.{bad_size}
use Rattle.answers.specs.Sizes.{area}
use Rattle.vbk_read.specs.Bytes.{le1, le2, le4, signed32}
use Rattle.vbk_read.specs.declared.Head.{Head}
use Rattle.vbk_read.specs.declared.Record.{Record}
use Rattle.vbk_read.specs.declared.Record.TheVariants.{End, Last, Skipped, Whole}
use Rattle.vbk_read.specs.declared.Reader.{Reader}

-- bytes of a record before its tokens
abbrev pub HEAD_BYTES : ℕ
HEAD_BYTES = 11

-- the size number of the record at a place: its byte 4
abbrev pub size_at : List ℕ → ℕ → ℕ
size_at s at = le1 s (at + 4)

-- the lossless byte of the record at a place: its byte 6
abbrev pub lossless_at : List ℕ → ℕ → ℕ
lossless_at s at = le1 s (at + 6)

-- the head of the record at a place, and the place of its tokens
abbrev pub head_at : List ℕ → ℕ → Head
head_at s at =
    record {
      x = le2 s at;
      y = le2 s (at + 2);
      size = size_at s at;
      tx_type = le1 s (at + 5);
      lossless = lossless_at s at;
      dc = le2 s (at + 7);
      ac = le2 s (at + 9);
      next = record { at = at + HEAD_BYTES };
    }

-- zeros, where a record gives no value
abbrev pub no_head : Head
no_head = record { x = 0; y = 0; size = 0; tx_type = 0; lossless = 0; dc = 0; ac = 0; next = record { at = 0 } }

-- token k of those from a place on
unfoldable pub token_at : List ℕ → ℕ → ℕ → ℤ
token_at s at k = signed32 (le4 s (at + 4 * k))

-- the tokens of the record at a place
unfoldable pub tokens_at : List ℕ → ℕ → List ℤ
tokens_at s at = tabulate (token_at s (at + HEAD_BYTES)) (area (size_at s at + 2))

-- the place past the record
unfoldable pub next_at : List ℕ → ℕ → ℕ
next_at s at = at + HEAD_BYTES + 4 * area (size_at s at + 2)

-- a record is there: a byte is left at the place
abbrev pub found : List ℕ → ℕ → Bool
found s at = ltb at (length s)

-- the checks that end the reading, in the file's own order
unfoldable pub end_answer : List ℕ → ℕ → ℕ
end_answer s at =
    lowest
    ((12, ltb (length s) (at + HEAD_BYTES))
    ∷ (2, bad_size (size_at s at))
    ∷ (12, ltb (length s) (next_at s at))
    ∷ [])

-- the reading ends at a place: with the record there, or because none is
abbrev pub ends : List ℕ → ℕ → Bool
ends s at = not (eqb (end_answer s at) 0)

-- the lossless byte is 0 or 1
abbrev pub lossless_answer : ℕ → ℕ
lossless_answer lossless = lowest ((14, ltb 1 lossless) ∷ [])

-- all checks of the record itself: after those that end the reading, the lossless byte. Where no record is there, none applies
unfoldable pub check_answer : List ℕ → ℕ → ℕ
check_answer s at = cond (found s at) (cond (ends s at) (end_answer s at) (lossless_answer (lossless_at s at))) 0

-- the head of a record that is whole, with a good lossless byte
abbrev pub head_read : List ℕ → ℕ → Head
head_read s at = cond (ends s at || ltb 1 (lossless_at s at)) no_head (head_at s at)

-- the place to read on from: past the record, or the end of the file
abbrev pub read_on : List ℕ → ℕ → ℕ
read_on s at = cond (ends s at) (length s) (next_at s at)

-- a record was found
abbrev pub is_found : Record → Bool
is_found End = false
is_found (Last _) = true
is_found (Skipped _ _) = true
is_found (Whole _ _) = true

-- the reading ends with it
abbrev pub is_last : Record → Bool
is_last End = true
is_last (Last _) = true
is_last (Skipped _ _) = false
is_last (Whole _ _) = false

-- the number of its own checks
abbrev pub record_number : Record → ℕ
record_number End = 0
record_number (Last refusal) = refusal_number refusal
record_number (Skipped refusal _) = refusal_number refusal
record_number (Whole _ _) = 0

-- its head, and zeros where it gives no value
abbrev pub head_in : Record → Head
head_in End = no_head
head_in (Last _) = no_head
head_in (Skipped _ _) = no_head
head_in (Whole head _) = head

-- the place to read on from, in a file of so many bytes
abbrev pub next_in : ℕ → Record → ℕ
next_in end End = end
next_in end (Last _) = end
next_in end (Skipped _ next) = next.at
next_in end (Whole _ next) = next.at

-- what is read at a place: a record, the last record, or, with no byte left, no further record; its answer so far, and no value but zeros
-- where that is not 0 or the reading ends
pub record Recorded (s : List ℕ) (at : ℕ) (r : Record) : Type 0 where
  pub found_is : is_found r ≡ found s at
  pub ends_is : is_last r ≡ ends s at
  pub answered : record_number r ≡ check_answer s at
  pub head_is : head_in r ≡ head_read s at
  pub next_is : next_in (length s) r ≡ read_on s at

-- a reader holds the file, a place in it, and what is read there
pub record Opened (file : Bor (List ℕ)) (at : ℕ) (r : Reader) : Type 0 where
  pub file_is : r.file ≡ file
  pub at_is : r.at ≡ at
  pub record_is : Recorded file.now at r.record
