-- What a reconstruction refuses: quantizers, planes and coefficients.
use Rattle.std.specs.Prelude.{Bool, not, ◌||◌, List, ℕ, ltb, eqb, ℤ, length}
use Rattle.answers.specs.Limits.{COEF_LIMIT, SIDE_LIMIT}
use Rattle.answers.specs.Bad.{bad_quantizer, any_beyond}
use Rattle.quant.specs.declared.DcQuant.{DcQuant}
use Rattle.quant.specs.declared.AcQuant.{AcQuant}
use Rattle.quant.specs.Places.{dequant_all}
use Rattle.plane.specs.declared.Plane.{Plane}
use Rattle.plane.specs.Place.{area_of}

-- 5: a quantizer outside its range
unfoldable pub bad_quantizers : DcQuant → AcQuant → Bool
bad_quantizers dc ac = bad_quantizer dc.0 || bad_quantizer ac.0

-- 7: a stride below the width, a stride or a side above its limit, or samples not exactly stride × height
unfoldable pub bad_plane : ℕ → Plane → Bool
bad_plane count p =
    ltb p.stride p.width
    || (ltb SIDE_LIMIT p.stride || (ltb SIDE_LIMIT p.width || (ltb SIDE_LIMIT p.height || not (eqb count (area_of p)))))

-- 9: a coefficient beyond its limit
unfoldable pub bad_coefficient : ℕ → DcQuant → AcQuant → List ℤ → Bool
bad_coefficient size dc ac tokens = any_beyond COEF_LIMIT (length tokens) (dequant_all size dc ac tokens)
