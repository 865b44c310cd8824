-- The transforms that the code names, as the passes of the definition.
use Rattle.std.specs.Prelude.{Bool, true, false, ℕ}
use Rattle.blocks.specs.Inverse as I
use Rattle.blocks.specs.Inverse.{Pass}
use Rattle.blocks.specs.declared.Transform.{Transform}
use Rattle.blocks.specs.declared.Transform.TheVariants.{Dct, Adst, Wht}

-- the pass of a transform
abbrev pub pass_of : Transform → Pass
pass_of Dct = I.Dct
pass_of Adst = I.Adst
pass_of (Wht shift) = I.Wht shift

-- whether a pass is lossless
abbrev pub is_wht : Pass → Bool
is_wht I.Dct = false
is_wht I.Adst = false
is_wht (I.Wht shift) = true
