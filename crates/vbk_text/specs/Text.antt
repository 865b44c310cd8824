-- What blockrun prints: the outcome of a run, and its lines as ASCII bytes.
use Rattle.std.specs.Prelude.{List, [], ◌∷◌, ℕ, ◌+◌, ◌*◌, length, get_or}
use Rattle.whole.specs.Steps.{each, ◌⨾◌}
use Rattle.vbk_text.specs.Decimal.{decimal}

-- a header refused with a number; or the header, every record's answer in order, the plane's samples afterwards and the touched count
pub data Outcome : Type 0 where
  refused : ℕ → Outcome
  ran : (version depth width height : ℕ) (answers samples : List ℕ) (touched : ℕ) → Outcome

-- a space and a number
unfoldable pub word : ℕ → List ℕ
word n = 32 ∷ decimal n

-- the line's end
abbrev pub newline : List ℕ
newline = 10 ∷ []

-- a letter and a number
unfoldable pub number_line : ℕ → ℕ → List ℕ
number_line letter n = (letter ∷ []) ⨾ word n ⨾ newline

-- `E number`
abbrev pub refusal_line : ℕ → List ℕ
refusal_line n = number_line 69 n

-- `VBK version depth width height`
unfoldable pub header_line : ℕ → ℕ → ℕ → ℕ → List ℕ
header_line version depth width height =
    (86 ∷ 66 ∷ 75 ∷ []) ⨾ word version ⨾ word depth ⨾ word width ⨾ word height ⨾ newline

-- `B index answer`
unfoldable pub answer_line : List ℕ → ℕ → List ℕ
answer_line answers index = (66 ∷ []) ⨾ word index ⨾ word (get_or answers index 0) ⨾ newline

-- the words of `count` samples from `from` on
unfoldable pub samples_from : List ℕ → ℕ → ℕ → List ℕ
samples_from samples from count = each count (λ c. word (get_or samples (from + c) 0))

-- `S` and the samples of row r
unfoldable pub row_line : List ℕ → ℕ → ℕ → List ℕ
row_line samples width r = (83 ∷ []) ⨾ samples_from samples (r * width) width ⨾ newline

-- `T` and the touched count
abbrev pub touched_line : ℕ → List ℕ
touched_line n = number_line 84 n

-- the text of a run: `E` alone, or `VBK`, every `B`, every `S` and `T`
unfoldable pub text : Outcome → List ℕ
text (refused n) = refusal_line n
text (ran version depth width height answers samples touched) =
    header_line version depth width height
    ⨾ each (length answers) (answer_line answers)
    ⨾ each height (row_line samples width)
    ⨾ touched_line touched

-- no run's text is longer; the code's constant of the same name is this number
abbrev pub TEXT_LIMIT : ℕ
TEXT_LIMIT = 45040
