-- What a leaf computes, as it has it in locals of 32 bits.
use mathlib.Core.Path.{◌≡◌, ap, ◌∙◌}
use Prim.Native.Nat.{◌^◌, ◌<◌}
use lib.Dec.{lit≤, lit<}
use lib.IntN.{ℤ}
use lib.Signed.{mag}
use mir.Syntax.{w16, w32}
use mir.Val.{hbits}
use Rattle.whole.specs.Round.{Round2}
use Rattle.whole.specs.Within.{Within}
use Rattle.whole.proofs.Signed.{rd, rd_ok}
use Rattle.whole.proofs.Within.{back, within_le}

-- an element that was read and widened
pub read : {z u : ℤ} → mag z < 2 ^ hbits w16 → u ≡ rd w16 z → u ≡ z
read m e = e ∙ rd_ok w16 m

-- a value of 32 bits, rounded
pub round_is : (z : ℤ) {x y : ℤ} → mag x < 2 ^ hbits w32 → x ≡ Round2 (rd w32 z) 14 → rd w32 z ≡ y → rd w32 x ≡ Round2 y 14
round_is z m e h = rd_ok w32 m ∙ e ∙ ap (λ (z : ℤ). Round2 z 14) h

pub room : {z : ℤ} → Within (2 ^ 30) z → Within 2147475455 (rd w32 z)
room b = rw (back w32 (lit< tt) b) (within_le (lit≤ tt) b)
