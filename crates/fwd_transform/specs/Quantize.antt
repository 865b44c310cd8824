-- The quantizing calls: a list of coefficients becomes the list of their tokens.
use Rattle.std.specs.Prelude.{Bool, ◌||◌, cond, List, [], ◌∷◌, ◌≡◌, ℕ, ltb, eqb, ℤ, pos, length, get_or}
use Rattle.whole.specs.Lists.{tabulate}
use Rattle.answers.specs.Answers.{Answer, number, lowest}
use Rattle.answers.specs.Bad.{bad_depth, retired, bad_size, bad_quantizer, any_beyond}
use Rattle.answers.specs.Limits.{COEF_LIMIT, LIST_LIMIT, codeable}
use Rattle.quant.specs.Places.{quantizer_at}
use Rattle.quant.specs.Token.{quantize}
use Rattle.quant.specs.declared.AcQuant.{AcQuant}
use Rattle.quant.specs.declared.DcQuant.{DcQuant}

-- what a call is given
pub record Input : Type 0 where
  pub coefs : List ℤ
  pub dc : DcQuant
  pub ac : AcQuant
  pub size : ℕ
  pub depth : ℕ

-- its table of answers; 20 stands in the place of 1
unfoldable pub answer_of : Input → ℕ
answer_of u =
    lowest
    ((1, bad_depth u.depth)
    ∷ (20, retired u.depth)
    ∷ (2, bad_size u.size)
    ∷ (5, bad_quantizer u.dc.0 || bad_quantizer u.ac.0)
    ∷ (6, ltb LIST_LIMIT (length u.coefs))
    ∷ (9, any_beyond COEF_LIMIT (length u.coefs) u.coefs)
    ∷ [])

-- the token at place k under a rule
unfoldable pub token_at : ℕ → Input → ℕ → ℤ
token_at rule u k = quantize rule u.size (codeable u.depth) (quantizer_at u.dc u.ac k) (get_or u.coefs k (pos 0))

-- the tokens of the whole list
unfoldable pub tokens_of : ℕ → Input → List ℤ
tokens_of rule u = tabulate (token_at rule u) (length u.coefs)

-- the list afterwards, by rule 1: as it was under a refusal
abbrev pub coefs_after : Input → List ℤ
coefs_after u = cond (eqb (answer_of u) 0) (tokens_of 1 u) u.coefs

-- the promise: the answer, and the list afterwards, which a refusal leaves as it was
pub record Quantized (u : Input) (answer : Answer) (after : List ℤ) : Type 0 where
  pub answered : number answer ≡ answer_of u
  pub written : after ≡ coefs_after u

-- ---- the call that takes a rule
-- 19: the rule is not 1 or 2
unfoldable pub bad_rule : ℕ → Bool
bad_rule rule = ltb rule 1 || ltb 2 rule

-- 19 comes before all others
abbrev pub rule_answer : ℕ → Input → ℕ
rule_answer rule u = cond (bad_rule rule) 19 (answer_of u)

-- the list afterwards: as it was under a refusal
abbrev pub ruled_after : ℕ → Input → List ℤ
ruled_after rule u = cond (eqb (rule_answer rule u) 0) (tokens_of rule u) u.coefs

-- the promise
pub record Ruled (rule : ℕ) (u : Input) (answer : Answer) (after : List ℤ) : Type 0 where
  pub answered : number answer ≡ rule_answer rule u
  pub written : after ≡ ruled_after rule u
