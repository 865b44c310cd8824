-- Every type is one of 4 by 4.
use mathlib.Core.Path.{refl}
use mathlib.Core.Bool.{Bool}
use Prim.Native.Nat.{ℕ}
use native.Mathlib.Omega.{arith}
use Rattle.blocks.specs.Inner.{Possible}

pub small : (tx_type : ℕ) (lossless : Bool) → Possible 2 tx_type lossless
small tx_type lossless = record { least = omega arith; most = omega arith; large = λ _ e. absurd (omega arith); small = λ _. refl }
