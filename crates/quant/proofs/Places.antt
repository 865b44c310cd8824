-- The quantizer of a place, where both are in range.
use mathlib.Core.Path.{◌≡◌, refl}
use mathlib.Core.Bool.{Bool, true, false, ◌||◌, cond}
use Prim.Native.Nat.{ℕ}
use native.Mathlib.Omega.{arith}
use lib.Dec.{eqb}
use lib.IntN.{ℤ}
use Rattle.answers.specs.Bad.{bad_quantizer}
use Rattle.quant.specs.declared.DcQuant.{DcQuant}
use Rattle.quant.specs.declared.AcQuant.{AcQuant}
use Rattle.quant.specs.Places.{quantizer_at}

never : {A : Type 0} → true ≡ false → A
never h = absurd (let z : ◌≡◌ {A = ℕ} 0 1 = cc in omega arith)

pub left_fine : (a b : Bool) → a || b ≡ false → a ≡ false
left_fine true b h = never h
left_fine false b h = refl

pub right_fine : (a b : Bool) → a || b ≡ false → b ≡ false
right_fine true b h = never h
right_fine false b h = h

either : (b : Bool) (x y : ℤ) → bad_quantizer x ≡ false → bad_quantizer y ≡ false → bad_quantizer (cond b x y) ≡ false
either true x y p q = p
either false x y p q = q

-- each of the two is in range
pub fine_each : (dc : DcQuant) (ac : AcQuant) (k : ℕ) → bad_quantizer dc.0 ≡ false → bad_quantizer ac.0 ≡ false → bad_quantizer (quantizer_at dc ac k) ≡ false
unfolding quantizer_at
fine_each dc ac k p q = either (eqb k 0) dc.0 ac.0 p q

-- both are
pub fine_at : (dc : DcQuant) (ac : AcQuant) (k : ℕ) → bad_quantizer dc.0 || bad_quantizer ac.0 ≡ false → bad_quantizer (quantizer_at dc ac k) ≡ false
fine_at dc ac k h = fine_each dc ac k (left_fine (bad_quantizer dc.0) (bad_quantizer ac.0) h) (right_fine (bad_quantizer dc.0) (bad_quantizer ac.0) h)
