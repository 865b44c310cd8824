-- How far a rotation of two numbers of 16 bits reaches: |cos64| + |sin64| is at most 23170 at every angle, by one test over the whole turn.
use mathlib.Core.Path.{◌≡◌, refl, ap}
use mathlib.Core.Bool.{Bool}
use Prim.Native.Nat.{ℕ, ◌+◌, ◌-◌, ◌/◌, ◌%◌, ◌≤◌}
use native.Mathlib.Nat as NatL
use native.Mathlib.Omega.{arith}
use lib.Dec.{T, leb, leb→le}
use lib.IntN.{ℤ, pos, negsuc, nat_abs, ◌-ℤ◌}
use Rattle.whole.specs.Within.{Within}
use Rattle.whole.proofs.Parts.{sum_parts}
use Rattle.whole.proofs.Tests.{all_below, below}
use Rattle.whole.proofs.Within.{within_le}
use Rattle.primitives.specs.Cosine.{modulo, cos_at, Cos64, Sin64}
use Rattle.primitives.specs.Rotations.{turn_x, turn_y}
use Rattle.primitives.proofs.Cosine.{modulo_lt, modulo_same, cos_is}
use Rattle.primitives.proofs.Growth.{within_turn_x, within_turn_y}
use Rattle.narrow.specs.Inner.{reach}

-- the sine, read off the cosine's own remainder
back32 : (z : ℤ) → modulo 128 (z -ℤ pos 32) ≡ modulo 128 (pos (modulo 128 z + 96))
back32 (pos a) =
    modulo_same 128 (omega arith) (pos a -ℤ pos 32) (pos (a % 128 + 96)) 1 (a / 128) (omega (arith, sum_parts (pos a) (negsuc 31), NatL.div-add-mod' a 128))
back32 (negsuc a) =
    modulo_same 128 (omega arith) (negsuc a -ℤ pos 32) (pos (127 - a % 128 + 96)) (a / 128 + 2) 0
    (omega (arith, sum_parts (negsuc a) (negsuc 31), NatL.div-add-mod' a 128, NatL.mod-lt a {m = 128} (omega arith)))

pub sin_at : (g : ℤ) → Sin64 g ≡ cos_at ((modulo 128 g + 96) % 128)
unfolding Sin64 Cos64
sin_at g = ap cos_at (back32 g)

unfoldable sum_at : ℕ → Bool
sum_at a = leb (nat_abs (cos_at a) + nat_abs (cos_at ((a + 96) % 128))) 23170

sums : T (all_below 128 sum_at)
unfolding sum_at cos_at
sums = tt

pub sum_le : (g : ℤ) → nat_abs (Cos64 g) + nat_abs (Sin64 g) ≤ 23170
unfolding sum_at
sum_le g =
    let a = modulo 128 g in
    rw (sin_at g, cos_is g a refl) (leb→le (nat_abs (cos_at a) + nat_abs (cos_at ((a + 96) % 128))) 23170 (below 128 sum_at sums a (modulo_lt 128 (omega arith) g)))

pub reach_x : {p q : ℤ} (g : ℤ) → Within 32768 p → Within 32768 q → Within reach (turn_x p q g)
reach_x g h k = within_le (omega (arith, sum_le g)) (within_turn_x g h k)

pub reach_y : {p q : ℤ} (g : ℤ) → Within 32768 p → Within 32768 q → Within reach (turn_y p q g)
reach_y g h k = within_le (omega (arith, sum_le g)) (within_turn_y g h k)
