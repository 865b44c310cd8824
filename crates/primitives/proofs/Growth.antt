-- How far the rotations reach: bounds of their values from bounds of what they read. B and SB by `within-turnX` and `within-turnY`, SH and B's rounding by `within-rounded`; H is a sum and a difference.
use Prim.Native.Nat.{ℕ, ◌+◌, ◌*◌, ◌/◌}
use native.Mathlib.Omega.{arith}
use lib.IntN.{ℤ, nat_abs}
use Rattle.whole.specs.Round.{Round2}
use Rattle.whole.specs.Within.{Within}
use Rattle.whole.proofs.Round.{round2_within}
use Rattle.whole.proofs.Within.{within_self, within_add, within_sub, within_mul}
use Rattle.primitives.specs.Cosine.{Cos64, Sin64}
use Rattle.primitives.specs.Rotations.{turn_x, turn_y}

-- of Round2(x, 14), for x within m
abbrev pub grown_round : ℕ → ℕ
grown_round m = (m + 8192) / 16384

-- of x of a rotation of values within p and q, not rounded
abbrev pub grown_x : ℕ → ℕ → ℤ → ℕ
grown_x p q angle = p * nat_abs (Cos64 angle) + q * nat_abs (Sin64 angle)

-- of y of such a rotation
abbrev pub grown_y : ℕ → ℕ → ℤ → ℕ
grown_y p q angle = p * nat_abs (Sin64 angle) + q * nat_abs (Cos64 angle)

pub within_rounded : {m : ℕ} {x : ℤ} → Within m x → Within (grown_round m) (Round2 x 14)
within_rounded b = round2_within 14 (omega arith) b

pub within_turn_x : {m n : ℕ} {p q : ℤ} (angle : ℤ) → Within m p → Within n q → Within (grown_x m n angle) (turn_x p q angle)
unfolding turn_x
within_turn_x angle bp bq = within_sub (within_mul bp (within_self (Cos64 angle))) (within_mul bq (within_self (Sin64 angle)))

pub within_turn_y : {m n : ℕ} {p q : ℤ} (angle : ℤ) → Within m p → Within n q → Within (grown_y m n angle) (turn_y p q angle)
unfolding turn_y
within_turn_y angle bp bq = within_add (within_mul bp (within_self (Sin64 angle))) (within_mul bq (within_self (Cos64 angle)))
