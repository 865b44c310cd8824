-- Two numbers stored, of any type and of ℤ.
use mathlib.Core.Path.{◌≡◌, refl}
use mathlib.Core.Bool.{Bool, true, false}
use mathlib.Core.List.{List}
use Prim.Native.Nat.{ℕ}
use lib.IntN.{ℤ}
use Rattle.primitives.specs.Rotations.{set_pair}
use Rattle.narrow.specs.Inner.{set_both}

pub both_is : (t : List ℤ) (a b : ℕ) (x y : ℤ) (flip : Bool) → set_both t a b x y flip ≡ set_pair t a b x y flip
unfolding set_both set_pair
both_is t a b x y true = refl
both_is t a b x y false = refl
