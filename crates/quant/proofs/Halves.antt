-- A quotient toward zero by 1 or by 2, as the machine divides.
use mathlib.Core.Path.{◌≡◌}
use native.Mathlib.Omega.{arith}
use lib.IntN.{ℤ, pos}
use lib.Signed.{quot_z}
use mir.Syntax.{w64}
use mir.Val.{SFits}
use Rattle.whole.proofs.Parts.{eq_parts, quot_P, quot_N}
use Rattle.whole.proofs.Within.{sfits_parts, sfits_P, sfits_N}

pub half_fits : (z : ℤ) → SFits w64 z → SFits w64 (quot_z z (pos 2))
half_fits z f =
    sfits_parts w64 (quot_z z (pos 2)) (omega (arith, quot_P z 2, quot_N z 2, sfits_P f, sfits_N f))
    (omega (arith, quot_P z 2, quot_N z 2, sfits_P f, sfits_N f))

pub whole_is : (z : ℤ) → quot_z z (pos 1) ≡ z
whole_is z = eq_parts (quot_z z (pos 1)) z (omega (arith, quot_P z 1, quot_N z 1))
