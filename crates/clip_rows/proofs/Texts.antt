-- Laws of the fronts, tails and pieces of a text.
use Rattle.std.proofs.Common.{◌≡◌, List, ℕ, [], ◌∷◌, ◌+◌, ◌-◌, ◌≤◌, length, take, drop, arith, sym, ap, ◌∙◌}
use Rattle.std.proofs.lemmas.List.{length-drop, length-take-le, drop-drop, drop-take, take-take, take_rest}
use Rattle.std.proofs.lemmas.List.Prefix.{end_rest}
use Rattle.clip_rows.specs.Rows.{Front, Piece, Tail}

-- what is left past a place is a tail
pub Tail-drop : (text : List ℕ) (n : ℕ) → n ≤ length text → Tail text (drop n text)
Tail-drop text n within =
    let at : n ≡ length text - length (drop n text) = omega (arith, length-drop n text) in
    (omega (arith, length-drop n text), ap (λ (k : ℕ). drop k text) at)

-- as `&text[n..]` gives it
pub Tail-rest : (text : List ℕ) (n : ℕ) → n ≤ length text → Tail text (take (length text - n) (drop n text))
Tail-rest text n within = rw (take_rest text n) (Tail-drop text n within)

-- the whole text is a tail
pub Tail-whole : (text : List ℕ) → Tail text text
Tail-whole text =
    let at : 0 ≡ length text - length text = omega arith in
    (omega arith, ap (λ (k : ℕ). drop k text) at)

-- what follows the first byte is a tail
pub Tail-first : (text : List ℕ) (b : ℕ) (rest : List ℕ) → text ≡ b ∷ rest → length rest + 1 ≡ length text → Tail text rest
Tail-first text b rest is len = (omega arith, sym (end_rest text rest (b ∷ []) is))

-- a tail of a tail is a tail
pub Tail-Tail : (text word rest : List ℕ) → Tail text word → Tail word rest → Tail text rest
Tail-Tail text word rest outer inner =
    let at : (length text - length word) + (length word - length rest) ≡ length text - length rest = omega arith in (
      omega arith,
      inner.1
          ∙ ap (λ (l : List ℕ). drop (length word - length rest) l) outer.1
          ∙ drop-drop (length word - length rest) (length text - length word) text
          ∙ ap (λ (k : ℕ). drop k text) at,
    )

-- what stands up to a place is a front
pub Front-take : (text : List ℕ) (n : ℕ) → n ≤ length text → Front text (take n text)
Front-take text n within =
    let at : n ≡ length (take n text) = sym (length-take-le n text within) in
    (omega arith, ap (λ (k : ℕ). take k text) at)

-- a front of a tail of a front is a piece, where the text past that front has room for the rest
pub Piece-cell : (text cell word rest piece : List ℕ) → Front text cell → Tail cell word → Front word piece → length cell + length rest ≤ length text → Piece text rest piece
Piece-cell text cell word rest piece front tail inner room =
    let k : ℕ = length cell - length word in
    let split : length cell ≡ k + length word = omega arith in
    let at : word ≡ take (length word) (drop k text) =
    tail.1
    ∙ ap (λ (l : List ℕ). drop k l) (front.1 ∙ ap (λ (n : ℕ). take n text) split)
    ∙ drop-take k (length word) text in (
      k,
      omega arith,
      inner.1
          ∙ ap (λ (l : List ℕ). take (length piece) l) at
          ∙ take-take (length piece) (length word) (drop k text) inner.0,
    )
