-- The forward WHT of a block of 4 by 4 numbers: columns, then rows, both at shift 0. It undoes the lossless inverse of §8.7.2.
use Rattle.std.specs.Prelude.{not, cond, List, [], ◌∷◌, ◌≡◌, ℕ, eqb, ℤ, length}
use Rattle.answers.specs.Answers.{Answer, number, lowest}
use Rattle.answers.specs.Bad.{any_beyond}
use Rattle.answers.specs.Limits.{WHT_LIMIT}
use Rattle.blocks.specs.Block.{rows, columns}
use Rattle.wht.specs.Wht.{wht}

-- all columns, then all rows
unfoldable pub forward_wht : List ℤ → List ℤ
forward_wht block = rows (wht 0) 4 (columns (wht 0) (λ z. z) 4 block)

-- the table of answers
unfoldable pub wht_answer : List ℤ → ℕ
wht_answer block = lowest ((6, not (eqb (length block) 16)) ∷ (9, any_beyond WHT_LIMIT (length block) block) ∷ [])

-- the block afterwards: as it was under a refusal
abbrev pub wht_after : List ℤ → List ℤ
wht_after block = cond (eqb (wht_answer block) 0) (forward_wht block) block

-- the promise: the answer, and the block afterwards, which a refusal leaves as it was
pub record Forwarded (block : List ℤ) (answer : Answer) (after : List ℤ) : Type 0 where
  pub answered : number answer ≡ wht_answer block
  pub written : after ≡ wht_after block
