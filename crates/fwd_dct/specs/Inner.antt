-- What only the contracts of inner functions read: one line at a time.
use Rattle.std.specs.Prelude.{List, ℕ, ◌*◌, ℤ, pos, ◌*ℤ◌, get_or}
use Rattle.whole.specs.Lists.{fill}
use Rattle.answers.specs.Sizes.{side}
use Rattle.basis.specs.Basis.{basis_at}
use Rattle.whole.specs.Inner.{times}
use Rattle.blocks.specs.Inner.{change_line}
use Rattle.fwd_dct.specs.Sum.{sum}

-- coefficient k of a line of 2^n numbers, not rounded
unfoldable pub line_sum : ℕ → List ℤ → ℕ → ℤ
line_sum n t k = sum (side n) (λ i. get_or t i (pos 0) *ℤ basis_at n k i)

-- the first 2^n numbers of T become their coefficients
unfoldable pub line_of : ℕ → List ℤ → List ℤ
line_of n t = fill (side n) (line_sum n t) t

-- after the first i lines, each `next` past the one before, its numbers `step` apart
unfoldable pub first_lines : ℕ → ℕ → ℕ → ℕ → List ℤ → List ℤ
first_lines n next step i = times i (λ i. change_line (line_of n) (λ z. z) (i * next) step (side n))
