-- The reconstruction of a block: its answer, and every sample of the plane afterwards. Specification §8.6.2.
use Rattle.std.specs.Prelude.{◌≡◌, Bool, cond, not, List, [], ◌∷◌, ℕ, ◌+◌, ◌-◌, ◌*◌, ◌^◌, eqb, ℤ, pos, length, get_or}
use Rattle.answers.specs.Answers.{Answer, number, lowest}
use Rattle.answers.specs.Limits.{codeable}
use Rattle.answers.specs.Sizes.{side, area}
use Rattle.answers.specs.Bad.{bad_depth, bad_size, bad_lossless, bad_tx_type, any_beyond}
use Rattle.quant.specs.declared.DcQuant.{DcQuant}
use Rattle.quant.specs.declared.AcQuant.{AcQuant}
use Rattle.quant.specs.Places.{dequant_all}
use Rattle.plane.specs.declared.Plane.{Plane}
use Rattle.plane.specs.Plane.{plane_after}
use Rattle.blocks.specs.Inverse.{inverse2d}
unfoldable pub use Rattle.tokens.specs.Tokens.{bad_quantizers, bad_plane, bad_coefficient}

-- what the call is given
pub record Input : Type 0 where
  pub samples : List ℕ
  pub plane : Plane
  pub x : ℕ
  pub y : ℕ
  pub size : ℕ
  pub tokens : List ℤ
  pub dc : DcQuant
  pub ac : AcQuant
  pub tx_type : ℕ
  pub lossless : Bool
  pub depth : ℕ

-- the largest sample
abbrev pub largest : ℕ → ℕ
largest depth = 2 ^ depth - 1

-- the table of answers
unfoldable pub answer_of : Input → ℕ
answer_of u =
    lowest
    (
    (1, bad_depth u.depth)
    ∷ (2, bad_size u.size)
    ∷ (3, bad_lossless u.lossless u.size)
    ∷ (4, bad_tx_type u.lossless u.size u.tx_type)
    ∷ (5, bad_quantizers u.dc u.ac)
    ∷ (6, not (eqb (length u.tokens) (area (u.size + 2))))
    ∷ (7, bad_plane (length u.samples) u.plane)
    ∷ (8, any_beyond (codeable u.depth) (length u.tokens) u.tokens)
    ∷ (9, bad_coefficient u.size u.dc u.ac u.tokens)
    ∷ []
    )

-- the residual, step 3 of §8.6.2: the inverse transform of the coefficients
unfoldable pub residual : ℕ → DcQuant → AcQuant → ℕ → Bool → List ℤ → List ℤ
residual size dc ac tx_type lossless tokens = inverse2d (size + 2) tx_type lossless (dequant_all size dc ac tokens)

-- the samples after the residual is added back, step 4 of §8.6.2, each clipped to 0 .. top
unfoldable pub added : Plane → ℕ → ℕ → ℕ → ℕ → DcQuant → AcQuant → ℕ → Bool → List ℤ → List ℕ → List ℕ
added plane top x y size dc ac tx_type lossless tokens samples =
    plane_after plane top x y (side (size + 2)) (λ i j. get_or (residual size dc ac tx_type lossless tokens) (i * side (size + 2) + j) (pos 0)) samples

-- the samples afterwards: as they were under a refusal
unfoldable pub samples_after : Input → List ℕ
samples_after u =
    cond (eqb (answer_of u) 0)
    (added u.plane (largest u.depth) u.x u.y u.size u.dc u.ac u.tx_type u.lossless u.tokens u.samples)
    u.samples

-- the promise: the answer, and the samples afterwards
pub record Reconstructed (u : Input) (answer : Answer) (after : List ℕ) : Type 0 where
  pub answered : number answer ≡ answer_of u
  pub written : after ≡ samples_after u
