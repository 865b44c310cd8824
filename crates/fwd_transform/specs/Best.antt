-- The best list of tokens, place by place: no formula of the quantizer.
use Rattle.std.specs.Prelude.{List, ◌≡◌, ℕ, ◌<◌, ℤ, pos, length, get_or}
use Rattle.answers.specs.Limits.{codeable}
use Rattle.quant.specs.Choice.{Least}
use Rattle.quant.specs.Places.{quantizer_at}
use Rattle.fwd_transform.specs.Quantize.{Input}

-- a token for each coefficient, each one that the choice takes of those that its depth can code
pub record Chosen (Choice : ℕ → ℕ → ℤ → ℤ → ℤ → Type 0) (u : Input) (tokens : List ℤ) : Type 0 where
  pub as_many : length tokens ≡ length u.coefs
  pub each_one : (k : ℕ) → k < length u.coefs → Choice u.size (codeable u.depth) (quantizer_at u.dc u.ac k) (get_or u.coefs k (pos 0)) (get_or tokens k (pos 0))

-- the best of rule 1: codeable, nearest, and the least of those equally near
abbrev pub Best : Input → List ℤ → Type 0
Best = Chosen Least
