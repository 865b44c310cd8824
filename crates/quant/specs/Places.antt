-- Lists of tokens and coefficients. Place 0 has the DC quantizer, all others the AC quantizer.
use Rattle.std.specs.Prelude.{cond, List, ℕ, eqb, ℤ, pos, length, get_or}
use Rattle.whole.specs.Lists.{tabulate}
use Rattle.quant.specs.declared.DcQuant.{DcQuant}
use Rattle.quant.specs.declared.AcQuant.{AcQuant}
use Rattle.quant.specs.Token.{dequant, given_back}

-- the quantizer of place k
unfoldable pub quantizer_at : DcQuant → AcQuant → ℕ → ℤ
quantizer_at dc ac k = cond (eqb k 0) dc.0 ac.0

-- the coefficients of a list of tokens
unfoldable pub dequant_all : ℕ → DcQuant → AcQuant → List ℤ → List ℤ
dequant_all size dc ac tokens = tabulate (λ k. dequant size (quantizer_at dc ac k) (get_or tokens k (pos 0))) (length tokens)

-- the tokens that dequantizing and quantizing a list of tokens give back
unfoldable pub given_back_all : ℕ → DcQuant → AcQuant → List ℤ → List ℤ
given_back_all size dc ac tokens = tabulate (λ k. given_back size (quantizer_at dc ac k) (get_or tokens k (pos 0))) (length tokens)
