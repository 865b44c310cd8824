-- What only the contracts of inner functions read: the two parts of the table, one bound in the place of two limits.
use Rattle.std.specs.Prelude.{◌≡◌, Bool, cond, not, ◌||◌, List, [], ◌∷◌, ℕ, ◌+◌, ◌*◌, ◌/◌, ◌≤◌, ◌<◌, ltb, eqb, ℤ, pos, nat_abs, length, get_or}
use Rattle.whole.specs.Tests.{any_below}
use Rattle.answers.specs.Answers.{lowest}
use Rattle.answers.specs.Limits.{COEF_LIMIT, codeable}
use Rattle.answers.specs.Sizes.{area}
use Rattle.answers.specs.Bad.{bad_depth, bad_size, bad_lossless, bad_tx_type, any_beyond}
use Rattle.quant.specs.declared.DcQuant.{DcQuant}
use Rattle.quant.specs.declared.AcQuant.{AcQuant}
use Rattle.quant.specs.Token.{dq_denom}
use Rattle.plane.specs.declared.Plane.{Plane}
use Rattle.tokens.specs.declared.DcBound.{DcBound}
use Rattle.tokens.specs.declared.AcBound.{AcBound}
use Rattle.tokens.specs.Tokens.{bad_quantizers, bad_plane, bad_coefficient}

-- the part of the table that needs no token and no sample, only how many there are
unfoldable pub shape_of : ℕ → Plane → ℕ → ℕ → DcQuant → AcQuant → ℕ → Bool → ℕ → ℕ
shape_of samples plane size tokens dc ac tx_type lossless depth =
    lowest
    (
    (1, bad_depth depth)
    ∷ (2, bad_size size)
    ∷ (3, bad_lossless lossless size)
    ∷ (4, bad_tx_type lossless size tx_type)
    ∷ (5, bad_quantizers dc ac)
    ∷ (6, not (eqb tokens (area (size + 2))))
    ∷ (7, bad_plane samples plane)
    ∷ []
    )

-- the part of the table for the tokens
unfoldable pub token_answer : ℕ → DcQuant → AcQuant → ℕ → List ℤ → ℕ
token_answer size dc ac depth tokens =
    lowest ((8, any_beyond (codeable depth) (length tokens) tokens) ∷ (9, bad_coefficient size dc ac tokens) ∷ [])

-- a magnitude is above r where it is above `most` or its coefficient is beyond the limit
pub record Bounds (size : ℕ) (q : ℤ) (most r : ℕ) : Type 0 where
  pub tells : (m : ℕ) → ltb r m ≡ ltb most m || ltb COEF_LIMIT (m * nat_abs q / dq_denom size)

-- of the first n tokens some magnitude is above its bound: `dc` for place 0, `ac` for all others
unfoldable pub any_above : DcBound → AcBound → ℕ → List ℤ → Bool
any_above dc ac n tokens = any_below (λ k. ltb (cond (eqb k 0) dc.0 ac.0) (nat_abs (get_or tokens k (pos 0)))) n

-- tokens that no limit is near to, whatever the quantizers
pub record SmallTokens (tokens : List ℤ) : Type 0 where
  pub small : (k : ℕ) → k < length tokens → nat_abs (get_or tokens k (pos 0)) ≤ 16384
