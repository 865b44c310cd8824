-- What a return of a table entry asks, and of its negative.
use mathlib.Core.Path.{◌≡◌}
use lib.Dec.{lit<}
use lib.IntN.{ℤ, pos, neg_ℤ, ◌-ℤ◌}
use mir.Syntax.{w64}
use mir.Val.{to_z, of_z}
use Rattle.whole.specs.Within.{Within}
use Rattle.whole.proofs.Parts.{zero_minus}
use Rattle.whole.proofs.Within.{within_neg, back}

pub out : {z y : ℤ} → Within 16384 z → z ≡ y → (to_z w64 (of_z w64 z) ≡ y) × Within 16384 (to_z w64 (of_z w64 z))
out b e = rw (back w64 (lit< tt) b) (e, b)

pub out_neg : {z y : ℤ} → Within 16384 z → neg_ℤ z ≡ y → (to_z w64 (of_z w64 (pos 0 -ℤ to_z w64 (of_z w64 z))) ≡ y) × Within 16384 (to_z w64 (of_z w64 (pos 0 -ℤ to_z w64 (of_z w64 z))))
out_neg {z} b e = rw (back w64 (lit< tt) b, zero_minus z, back w64 (lit< tt) (within_neg b)) (e, within_neg b)
