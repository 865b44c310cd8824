-- The bounds of what the code's angles are made of: a turn of a loop, and two bits against one another.
use Prim.Native.Nat.{ℕ, ◌<◌}
use native.Mathlib.Nat as NatL
use native.Mathlib.Omega.{arith}
use lib.Bits.{bit_xor, xor_lt}
use lib.IntN.{pos}
use Rattle.whole.specs.Within.{Within}

pub turn : (i : ℕ) → i < 8 → Within 8 (pos i)
turn i h = record { hi = omega arith; lo = omega arith }

pub bit : (i j : ℕ) → i < 2 → j < 2 → Within 1 (pos (bit_xor i j))
bit i j h k = record { hi = NatL.le_of_suc-le-suc (xor_lt 1 i j h k); lo = omega arith }
