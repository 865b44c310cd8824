-- What only the contracts of inner functions read: tokens that are taken, and what each way leaves.
use Rattle.std.specs.Prelude.{◌≡◌, Bool, true, false, List, ℕ, ◌+◌, ◌≤◌, ◌<◌, ℤ, pos, nat_abs, length, get_or}
use Rattle.answers.specs.Bad.{bad_depth}
use Rattle.answers.specs.Limits.{COEF_LIMIT, codeable}
use Rattle.answers.specs.Sizes.{area}
use Rattle.quant.specs.declared.DcQuant.{DcQuant}
use Rattle.quant.specs.declared.AcQuant.{AcQuant}
use Rattle.quant.specs.Places.{dequant_all}
use Rattle.plane.specs.declared.Plane.{Plane}
use Rattle.blocks.specs.Inner.{Possible}
use Rattle.tokens.specs.Inner.{SmallTokens, token_answer}
use Rattle.tokens.specs.Tokens.{bad_quantizers}
use Rattle.reconstruct.specs.Reconstruct.{largest, added}

-- tokens that are taken: the table has nothing against them, their number, their quantizers, the size and the type
pub record Accepted (size : ℕ) (dc : DcQuant) (ac : AcQuant) (tx_type : ℕ) (lossless : Bool) (tokens : List ℤ) : Type 0 where
  pub possible : Possible (size + 2) tx_type lossless
  pub quantizers : bad_quantizers dc ac ≡ false
  pub all : length tokens ≡ area (size + 2)
  pub codeables : (k : ℕ) → k < length tokens → nat_abs (get_or tokens k (pos 0)) ≤ codeable 12
  pub coefs : (k : ℕ) → k < length tokens → nat_abs (get_or (dequant_all size dc ac tokens) k (pos 0)) ≤ COEF_LIMIT

-- the same as far as it needs no look at the tokens
pub record Sound (size : ℕ) (dc : DcQuant) (ac : AcQuant) (tx_type : ℕ) (lossless : Bool) (depth : ℕ) (tokens : List ℤ) : Type 0 where
  pub possible : Possible (size + 2) tx_type lossless
  pub quantizers : bad_quantizers dc ac ≡ false
  pub all : length tokens ≡ area (size + 2)
  pub depth_ok : bad_depth depth ≡ false

-- the answer of the tokens, and the samples afterwards: as they were under a refusal
pub record Checked (plane : Plane) (x y size : ℕ) (dc : DcQuant) (ac : AcQuant) (tx_type : ℕ) (lossless : Bool) (depth : ℕ) (tokens : List ℤ) (samples : List ℕ) (answer : ℕ) (after : List ℕ) : Type 0 where
  pub answered : answer ≡ token_answer size dc ac depth tokens
  pub written : answer ≡ 0 → after ≡ added plane (largest depth) x y size dc ac tx_type lossless tokens samples
  pub kept : (answer ≡ 0 → ⊥) → after ≡ samples

-- where 16 bits are enough: tokens that no limit is near to, and the residual in the plane
pub record Quick (plane : Plane) (top x y size : ℕ) (dc : DcQuant) (ac : AcQuant) (tx_type : ℕ) (tokens : List ℤ) (samples after : List ℕ) : Type 0 where
  pub small : SmallTokens tokens
  pub written : after ≡ added plane top x y size dc ac tx_type false tokens samples

-- what the quick way leaves; where it does not serve, the samples as they were
abbrev pub Tried : Plane → ℕ → ℕ → ℕ → ℕ → DcQuant → AcQuant → ℕ → List ℤ → List ℕ → Bool → List ℕ → Type 0
Tried plane top x y size dc ac tx_type tokens samples true after = Quick plane top x y size dc ac tx_type tokens samples after
Tried plane top x y size dc ac tx_type tokens samples false after = after ≡ samples
