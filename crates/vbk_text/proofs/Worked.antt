-- The worked example's text: a 4 by 4 plane after one record answered 0.
use mathlib.Core.Path.{◌≡◌, refl}
use mathlib.Core.List.{List, [], ◌∷◌}
use Prim.Native.Nat.{ℕ}
use Rattle.whole.specs.Steps.{each, ◌⨾◌}
use Rattle.vbk_text.specs.Decimal.{decimal}
use Rattle.vbk_text.specs.Text.{ran, word, number_line, header_line, answer_line, samples_from, row_line, text}

samples : List ℕ
samples = 102 ∷ 101 ∷ 101 ∷ 101 ∷ 101 ∷ 101 ∷ 101 ∷ 101 ∷ 101 ∷ 101 ∷ 101 ∷ 101 ∷ 101 ∷ 101 ∷ 101 ∷ 101 ∷ []

printed :
    text (ran 1 8 4 4 (0 ∷ []) samples 16)
    ≡ (86 ∷ 66 ∷ 75 ∷ 32 ∷ 49 ∷ 32 ∷ 56 ∷ 32 ∷ 52 ∷ 32 ∷ 52 ∷ 10 ∷ [])
    ⨾ (66 ∷ 32 ∷ 48 ∷ 32 ∷ 48 ∷ 10 ∷ [])
    ⨾ (83 ∷ 32 ∷ 49 ∷ 48 ∷ 50 ∷ 32 ∷ 49 ∷ 48 ∷ 49 ∷ 32 ∷ 49 ∷ 48 ∷ 49 ∷ 32 ∷ 49 ∷ 48 ∷ 49 ∷ 10 ∷ [])
    ⨾ (83 ∷ 32 ∷ 49 ∷ 48 ∷ 49 ∷ 32 ∷ 49 ∷ 48 ∷ 49 ∷ 32 ∷ 49 ∷ 48 ∷ 49 ∷ 32 ∷ 49 ∷ 48 ∷ 49 ∷ 10 ∷ [])
    ⨾ (83 ∷ 32 ∷ 49 ∷ 48 ∷ 49 ∷ 32 ∷ 49 ∷ 48 ∷ 49 ∷ 32 ∷ 49 ∷ 48 ∷ 49 ∷ 32 ∷ 49 ∷ 48 ∷ 49 ∷ 10 ∷ [])
    ⨾ (83 ∷ 32 ∷ 49 ∷ 48 ∷ 49 ∷ 32 ∷ 49 ∷ 48 ∷ 49 ∷ 32 ∷ 49 ∷ 48 ∷ 49 ∷ 32 ∷ 49 ∷ 48 ∷ 49 ∷ 10 ∷ [])
    ⨾ (84 ∷ 32 ∷ 49 ∷ 54 ∷ 10 ∷ [])
unfolding samples decimal word number_line header_line answer_line samples_from row_line text each
printed = refl
