-- The forward DCT in whole numbers: the exact double sum, rounded once; its answers and its promise.
use Rattle.std.specs.Prelude.{not, cond, List, [], ◌∷◌, ◌≡◌, ℕ, ◌+◌, ◌*◌, ◌/◌, ◌%◌, eqb, ℤ, pos, ◌*ℤ◌, length, get_or}
use Rattle.whole.specs.Lists.{tabulate}
use Rattle.whole.specs.Round.{Round2}
use Rattle.answers.specs.Answers.{Answer, number, lowest}
use Rattle.answers.specs.Bad.{bad_side, any_beyond}
use Rattle.answers.specs.Sizes.{side, area}
use Rattle.basis.specs.Basis.{basis_at}
use Rattle.fwd_dct.specs.Sum.{sum}

-- magnitude of a residual
abbrev pub RESIDUAL_LIMIT : ℕ
RESIDUAL_LIMIT = 4095

-- coefficient (u, v), not rounded: over all numbers (i, j) of the block, residual × row basis × column basis
unfoldable pub exact : ℕ → List ℤ → ℕ → ℕ → ℤ
exact n block u v = sum (side n) (λ i. sum (side n) (λ j. get_or block (i * side n + j) (pos 0) *ℤ basis_at n v j *ℤ basis_at n u i))

-- Round2 by 26, 27, 28 and 30 bits
abbrev pub bits : ℕ → ℕ
bits n = cond (eqb n 5) 30 (24 + n)

-- the coefficients of a block, row by row
unfoldable pub forward_dct : ℕ → List ℤ → List ℤ
forward_dct n block = tabulate (λ p. Round2 (exact n block (p / side n) (p % side n)) (bits n)) (area n)

-- what a call is given
pub record Input : Type 0 where
  pub block : List ℤ
  pub n : ℕ

-- its table of answers
unfoldable pub answer_of : Input → ℕ
answer_of u =
    lowest
    ((2, bad_side u.n)
    ∷ (6, not (eqb (length u.block) (area u.n)))
    ∷ (9, any_beyond RESIDUAL_LIMIT (length u.block) u.block)
    ∷ [])

-- the block afterwards: as it was under a refusal
abbrev pub block_after : Input → List ℤ
block_after u = cond (eqb (answer_of u) 0) (forward_dct u.n u.block) u.block

-- the promise: the answer, and the block afterwards, which a refusal leaves as it was
pub record Transformed (u : Input) (answer : Answer) (after : List ℤ) : Type 0 where
  pub answered : number answer ≡ answer_of u
  pub written : after ≡ block_after u
