-- One token of a block replaced: the answer, the block and its summary afterwards.
use Rattle.std.specs.Prelude.{◌≡◌, Bool, cond, not, ◌||◌, List, [], ◌∷◌, ℕ, ◌+◌, ◌*◌, ◌/◌, ltb, eqb, ℤ, nat_abs, length, set}
use Rattle.answers.specs.Answers.{Answer, number, lowest}
use Rattle.answers.specs.Limits.{COEF_LIMIT, codeable}
use Rattle.answers.specs.Sizes.{side, area}
use Rattle.answers.specs.Bad.{bad_depth, bad_size, bad_quantizer}
use Rattle.quant.specs.declared.DcQuant.{DcQuant}
use Rattle.quant.specs.declared.AcQuant.{AcQuant}
use Rattle.quant.specs.Token.{dequant}
use Rattle.quant.specs.Places.{quantizer_at}
use Rattle.blocks.specs.Block.{live}
use Rattle.summary.specs.Summary.{those, mask, is_set}

-- what the call is given
pub record Input : Type 0 where
  pub block : List ℤ
  pub summary : ℕ
  pub size : ℕ
  pub place : ℕ
  pub token : ℤ
  pub dc : DcQuant
  pub ac : AcQuant
  pub depth : ℕ

-- the coefficient of the new token, under the quantizer of its place
unfoldable pub coefficient : Input → ℤ
coefficient u = dequant u.size (quantizer_at u.dc u.ac u.place) u.token

-- the answer, the first that applies: 16 where the place is at or past the block's end, before 8 and 9, which are of the new token alone
unfoldable pub answer_of : Input → ℕ
answer_of u =
    lowest
    (
    (1, bad_depth u.depth)
    ∷ (2, bad_size u.size)
    ∷ (5, bad_quantizer u.dc.0 || bad_quantizer u.ac.0)
    ∷ (6, not (eqb (length u.block) (area (u.size + 2))))
    ∷ (16, not (ltb u.place (area (u.size + 2))))
    ∷ (8, ltb (codeable u.depth) (nat_abs u.token))
    ∷ (9, ltb COEF_LIMIT (nat_abs (coefficient u)))
    ∷ []
    )

-- the block afterwards: the coefficient at its place, and as it was under a refusal
unfoldable pub block_after : Input → List ℤ
block_after u = cond (eqb (answer_of u) 0) (set u.block u.place (coefficient u)) u.block

-- bit i of m becomes b, and all others stay
unfoldable pub with_bit : ℕ → ℕ → Bool → ℕ
with_bit m i b = mask (those (λ k. cond (eqb k i) b (is_set m k)) 32)

-- the bit of the place's row, worked out again on a block; n0 numbers to a row
unfoldable pub renewed : ℕ → ℕ → List ℤ → ℕ → ℕ
renewed n0 place s m = with_bit m (place / n0) (live (place / n0 * n0) n0 s)

-- the summary afterwards: as it was under a refusal
unfoldable pub summary_after : Input → ℕ
summary_after u = cond (eqb (answer_of u) 0) (renewed (side (u.size + 2)) u.place (block_after u) u.summary) u.summary

-- the promise: the answer, the block and the summary afterwards
pub record Replaced (u : Input) (answer : Answer) (block : List ℤ) (summary : ℕ) : Type 0 where
  pub answered : number answer ≡ answer_of u
  pub written : block ≡ block_after u
  pub kept : summary ≡ summary_after u
