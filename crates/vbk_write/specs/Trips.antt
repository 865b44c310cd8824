-- Reading after writing, and writing after reading.
use Rattle.std.specs.Prelude.{◌≡◌, true, false, List, [], ◌∷◌, ℕ, ◌+◌, ◌*◌, ◌≤◌, ◌<◌, ◌^◌, ℤ, pos, length, get_or}
use Rattle.std.specs.Int.Signed.{mag}
use Rattle.answers.specs.Bad.{bad_depth}
use Rattle.answers.specs.Limits.{FILE_LIMIT}
use Rattle.answers.specs.Sizes.{area}
use Rattle.vbk_read.specs.Header.{depth_of, bad_area, header_answer}
use Rattle.vbk_write.specs.Clip.{Entry, Clip, says, whole, bytes_of}
use Rattle.vbk_write.specs.Lent.{file_of, lent_of}
use Rattle.vbk_write.specs.Promises.{answer_of}

-- every token is a number of 32 bits, as those of a lent list of them are
abbrev pub Tokens32 : List ℤ → Type 0
Tokens32 tokens = (k : ℕ) → mag (get_or tokens k (pos 0)) < 2 ^ 31

-- every number is a byte, as those of a lent list of them are
abbrev pub Bytes : List ℕ → Type 0
Bytes s = (k : ℕ) → get_or s k 0 < 256

-- a record that the reader takes as it stands: a size, a lossless byte of 0 or 1, as many tokens as the size has, and each of 32 bits
pub record Sound (e : Entry) : Type 0 where
  pub size_is : e.size ≤ 3
  pub lossless_is : e.lossless ≤ 1
  pub tokens_are : length e.tokens ≡ area (e.size + 2)
  pub tokens_fit : Tokens32 e.tokens

-- every record is
pub data AllSound : List Entry → Type 0 where
  none : AllSound []
  more : {e : Entry} {es : List Entry} → Sound e → AllSound es → AllSound (e ∷ es)

-- a clip that the reader takes as it stands; its depth is 8, 10 or 12
pub record Good (c : Clip) : Type 0 where
  pub depth_is : bad_depth c.depth ≡ false
  pub samples_are : length c.samples ≡ c.width * c.height
  pub area_is : bad_area (c.width * c.height) ≡ false
  pub short : length (bytes_of c) ≤ FILE_LIMIT
  pub entries_are : AllSound c.entries

-- the reader reads a clip in the file: a good header, all that the clip has in its order, and nothing else up to the end of the reading
pub record ReadBack (c : Clip) (s : List ℕ) : Type 0 where
  pub header : header_answer s ≡ 0
  pub says_it : says s ≡ c
  pub all_whole : whole s ≡ true

-- a file's own lists give the file; they are taken in any buffer that the file fits, but those of depth 12 are refused, which is read and no longer written
pub record WrittenBack (s : List ℕ) : Type 0 where
  pub taken : (depth_of s ≡ 12 → ⊥) → (room : ℕ) → length s ≤ room → answer_of (lent_of (says s)) room ≡ 0
  pub refused : depth_of s ≡ 12 → (room : ℕ) → answer_of (lent_of (says s)) room ≡ 20
  pub file : file_of (lent_of (says s)) ≡ s
