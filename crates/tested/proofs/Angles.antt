-- The angles of the table: what a test says of each of them it says of a known one.
use mathlib.Core.Path.{◌≡◌, subst, sym}
use mathlib.Core.Bool.{Bool, true, false, ◌&&◌, ◌||◌}
use mathlib.Core.List.{List, [], ◌∷◌}
use lib.Dec.{T}
use lib.IntN.{ℤ}
use mir.Syntax.{w8}
use mir.Val.{to_z, of_z}
use Rattle.std.specs.Ordering.{int_eq}
use Rattle.std.specs.Cmp.{signed_Decides}
use Rattle.tested.specs.Inner.{among, known}
use Rattle.tested.proofs.Lists.{t₁, t₂}

abbrev pub every : (ℤ → Bool) → List ℤ → Bool
every p [] = true
every p (x ∷ xs) = p x && every p xs

is_true : (b : Bool) → T b → b ≡ true
is_true true h = cc
is_true false h = absurd h

pub equal : (x y : ℤ) → T (int_eq x y) → x ≡ y
equal x y h = (signed_Decides x y).0 (is_true (int_eq x y) h)

pub either : {A : Type 0} (b c : Bool) → T (b || c) → (T b → A) → (T c → A) → A
either true c h f g = f tt
either false c h f g = g h

pub every_among : (p : ℤ → Bool) (g : ℤ) (xs : List ℤ) → T (every p xs) → T (among g xs) → T (p g)
unfolding among
every_among p g [] e h = absurd h
every_among p g (x ∷ xs) e h =
    either (int_eq g x) (among g xs) h (λ q. subst (λ z. T (p z)) (sym (equal g x q)) (t₁ (p x) (every p xs) e)) (every_among p g xs (t₂ (p x) (every p xs) e))

pub known_fits : (g : ℤ) → T (known g) → to_z w8 (of_z w8 g) ≡ g
unfolding known
known_fits g h = equal (to_z w8 (of_z w8 g)) g (every_among (λ g. int_eq (to_z w8 (of_z w8 g)) g) g _ tt h)
