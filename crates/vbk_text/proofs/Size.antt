-- How long the text can be: every number below 100,000 takes at most five digits, so that a run of at most 4,096 samples and 874 records fits TEXT_LIMIT.
use mathlib.Core.Path.{◌≡◌, refl, sym}
use mathlib.Core.Bool.{Bool, true, false}
use mathlib.Core.List.{List, [], ◌∷◌, ◌++◌}
use Prim.Native.Nat.{ℕ, zero, suc, ◌+◌, ◌*◌, ◌/◌, ◌%◌, ◌≤◌, ◌<◌}
use native.Mathlib.Nat as N
use native.Mathlib.Omega.{arith}
use borrow.Author.Tests.{ltb-true, ltb-false}
use lib.Dec.{ltb}
use lib.ListN.{length, get_or, length-append}
use Rattle.whole.specs.Steps.{each}
use Rattle.vbk_text.specs.Decimal.{decimal}
use Rattle.vbk_text.specs.Text.{refused, ran, word, number_line, header_line, answer_line, samples_from, row_line, text, TEXT_LIMIT}
use Rattle.vbk_text.proofs.Decimal.{decimal_one, decimal_more}
use Rattle.vbk_text.proofs.Writing.{row_fits}

one : (n : ℕ) → n < 10 → length (decimal n) ≤ 1
one n h = rw (decimal_one n h) (omega arith)

-- ten times as far, one digit more
ten : (m k : ℕ) → ((n : ℕ) → n < m → length (decimal n) ≤ k) → (n : ℕ) → n < 10 * m → length (decimal n) ≤ suc k
ten m k short n h = go (ltb n 10) refl
  where
    go : (b : Bool) → ltb n 10 ≡ b → length (decimal n) ≤ suc k
    go true e = omega (arith, one n (ltb-true n 10 e))
    go false e =
        rw (decimal_more n (ltb-false n 10 e), length-append (decimal (n / 10)) ((48 + n % 10) ∷ []))
        (omega (arith, short (n / 10) (omega arith)))

five : (n : ℕ) → n < 100000 → length (decimal n) ≤ 5
five = ten 10000 4 (ten 1000 3 (ten 100 2 (ten 10 1 one)))

ten_digits : (n : ℕ) → n < 10000000000 → length (decimal n) ≤ 10
ten_digits = ten 1000000000 9 (ten 100000000 8 (ten 10000000 7 (ten 1000000 6 (ten 100000 5 five))))

fifteen : (n : ℕ) → n < 1000000000000000 → length (decimal n) ≤ 15
fifteen = ten 100000000000000 14 (ten 10000000000000 13 (ten 1000000000000 12 (ten 100000000000 11 (ten 10000000000 10 ten_digits))))

-- every number of 64 bits
pub twenty : (n : ℕ) → n < 100000000000000000000 → length (decimal n) ≤ 20
twenty = ten 10000000000000000000 19 (ten 1000000000000000000 18 (ten 100000000000000000 17 (ten 10000000000000000 16 (ten 1000000000000000 15 fifteen))))

pub word_short : (n : ℕ) → n < 100000 → length (word n) ≤ 6
unfolding word
word_short n h = omega (arith, five n h)

each_short : (f : ℕ → List ℕ) (m n : ℕ) → ((i : ℕ) → i < n → length (f i) ≤ m) → length (each n f) ≤ n * m
unfolding each
each_short f m zero h = omega arith
each_short f m (suc n) h =
    rw (length-append (each n f) (f n), N.suc-mul n m) (omega (arith, each_short f m n (λ i l. h i (omega arith)), h n (omega arith)))

pub number_short : (letter n : ℕ) → n < 100000 → length (number_line letter n) ≤ 8
unfolding number_line
number_short letter n h = omega (arith, length-append (word n) (10 ∷ []), word_short n h)

-- what is said of a run, so that its text fits
pub record Small (version depth width height : ℕ) (answers samples : List ℕ) (touched : ℕ) : Type 0 where
  pub version_small : version < 100000
  pub depth_small : depth < 100000
  pub area_small : height * width ≤ 4096
  pub width_some : 0 < width
  pub height_some : 0 < height
  pub records_few : length answers ≤ 874
  pub answers_small : (i : ℕ) → i < length answers → get_or answers i 0 < 100000
  pub samples_small : (k : ℕ) → k < height * width → get_or samples k 0 < 100000
  pub touched_small : touched < 100000

module _ {version depth width height : ℕ} {answers samples : List ℕ} {touched : ℕ} (s : Small version depth width height answers samples touched) where
  height_small : height ≤ 4096
  height_small = omega (arith, s.area_small, N.mul-le-mul_left height s.width_some, N.mul-one height)

  width_small : width ≤ 4096
  width_small = omega (arith, s.area_small, N.mul-le-mul_right width s.height_some, N.one-mul width)

  header_short : length (header_line version depth width height) ≤ 28
  unfolding header_line
  header_short =
      omega (
        arith,
        length-append (word version) (word depth ++ (word width ++ (word height ++ (10 ∷ [])))),
        length-append (word depth) (word width ++ (word height ++ (10 ∷ []))),
        length-append (word width) (word height ++ (10 ∷ [])),
        length-append (word height) (10 ∷ []),
        word_short version s.version_small,
        word_short depth s.depth_small,
        word_short width (omega (arith, width_small)),
        word_short height (omega (arith, height_small)),
      )

  answer_short : (i : ℕ) → i < length answers → length (answer_line answers i) ≤ 14
  unfolding answer_line
  answer_short i h =
      omega (
        arith,
        length-append (word i) (word (get_or answers i 0) ++ (10 ∷ [])),
        length-append (word (get_or answers i 0)) (10 ∷ []),
        word_short i (omega (arith, s.records_few)),
        word_short (get_or answers i 0) (s.answers_small i h),
      )

  samples_short : (r : ℕ) → r < height → length (samples_from samples (r * width) width) ≤ width * 6
  unfolding samples_from
  samples_short r h =
      each_short _ 6 width (λ c l. word_short (get_or samples (r * width + c) 0) (s.samples_small (r * width + c) (omega (arith, row_fits r width height h (N.le_refl (height * width))))))

  row_short : (r : ℕ) → r < height → length (row_line samples width r) ≤ width * 6 + 2
  unfolding row_line
  row_short r h = omega (arith, length-append (samples_from samples (r * width) width) (10 ∷ []), samples_short r h)

  -- width × height words of samples, and two bytes a row
  rows_short : length (each height (row_line samples width)) ≤ 32768
  rows_short =
      omega (
        arith,
        each_short (row_line samples width) (width * 6 + 2) height row_short,
        N.mul-add height (width * 6) 2,
        sym (N.mul_assoc height width 6),
        s.area_small,
        height_small,
      )

  answers_short : length (each (length answers) (answer_line answers)) ≤ 12236
  answers_short = omega (arith, each_short (answer_line answers) 14 (length answers) answer_short, s.records_few)

  pub run_fits : length (text (ran version depth width height answers samples touched)) ≤ TEXT_LIMIT
  unfolding text
  run_fits =
      omega (
        arith,
        length-append (header_line version depth width height) (each (length answers) (answer_line answers) ++ (each height (row_line samples width) ++ number_line 84 touched)),
        length-append (each (length answers) (answer_line answers)) (each height (row_line samples width) ++ number_line 84 touched),
        length-append (each height (row_line samples width)) (number_line 84 touched),
        header_short,
        answers_short,
        rows_short,
        number_short 84 touched s.touched_small,
      )

pub refusal_fits : (n : ℕ) → n < 100000 → length (text (refused n)) ≤ TEXT_LIMIT
unfolding text
refusal_fits n h = omega (arith, number_short 69 n h)
