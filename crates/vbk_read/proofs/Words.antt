-- A two's complement word, as the machine reads it and as the definition does.
use mathlib.Core.Path.{◌≡◌, refl}
use Prim.Native.Nat.{ℕ}
use mir.Syntax.{w32}
use mir.Val.{to_z}
use Rattle.vbk_read.specs.Bytes.{signed32}

pub word_is : (u : ℕ) → to_z w32 u ≡ signed32 u
word_is u = refl
