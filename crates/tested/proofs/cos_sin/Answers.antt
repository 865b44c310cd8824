-- `tested::cos_sin` meets its contract: arm by arm, and what the arms leave is the last angle.
use mathlib.Core.Path.{◌≡◌, ap}
use mathlib.Core.Bool.{◌||◌}
use mathlib.Core.List.{List, [], ◌∷◌}
use Prim.Native.Nat.{ℕ}
use native.Mathlib.Omega.{arith}
use lib.Dec.{T}
use lib.IntN.{ℤ, pos, negsuc}
use mir.Syntax.{w8}
use mir.Val.{of_z}
use Rattle.std.proofs.lemmas.Int.{ints}
use Rattle.std.specs.Ordering.{int_eq}
use Rattle.narrow.proofs.Angles.{Angle, angle3, angle6, angle7, angle8, angle11, angle12, angle14, angle15, angle16, angle19, angle22, angle23, angle24, angle27, angle28, angle30, angle31, angle48, angle68, angle72, angle84, angle112, angle_back20, angle_back4}
use Rattle.tested.specs.Inner.{OfAngle, among, known}
use Rattle.tested.proofs.Angles.{equal, either}
use Rattle.tested.proofs.cos_sin.Goals as goal

arm : (g k : ℤ) {cos sin : ℤ} → g ≡ k → Angle k cos sin → OfAngle g cos sin
arm g k e h = rw e (record { cos_is = h.cos_is; sin_is = h.sin_is })

-- a byte is none of these, the last of the arms first
abbrev None : List ℤ → ℕ → Type 0
None [] m = Unit
None (x ∷ xs) m = None xs m × (m ≡ of_z w8 x → ⊥)

not_among : (g : ℤ) (xs : List ℤ) → None xs (of_z w8 g) → T (among g xs) → ⊥
unfolding among
not_among g [] r h = h
not_among g (x ∷ xs) r h = either (int_eq g x) (among g xs) h (λ q. r.1 (ap (of_z w8) (equal g x q))) (not_among g xs r.0)

-- of the known angles the last is left
last : (g x : ℤ) (xs : List ℤ) → T (int_eq g x || among g xs) → None xs (of_z w8 g) → g ≡ x
last g x xs h r = either (int_eq g x) (among g xs) h (equal g x) (λ k. absurd (not_among g xs r k))

pub returns-in_default : goal.returns-in_default
unfolding known among
returns-in_default c =
    arm c.args.angle (negsuc 3) (last c.args.angle (negsuc 3) (pos 112 ∷ pos 84 ∷ pos 72 ∷ pos 68 ∷ pos 48 ∷ pos 31 ∷ pos 30 ∷ pos 28 ∷ pos 27 ∷ pos 24 ∷ pos 23 ∷ pos 22 ∷ pos 19 ∷ pos 16 ∷ pos 15 ∷ pos 14 ∷ pos 12 ∷ pos 11 ∷ pos 8 ∷ pos 7 ∷ pos 6 ∷ pos 3 ∷ negsuc 19 ∷ []) c.requires c.in_default.in_default-own.rest)
    angle_back4

pub returns-in-minus20 : goal.returns-in-minus20
returns-in-minus20 c = arm c.args.angle (negsuc 19) (omega (arith, ints)) angle_back20

pub returns-in-3 : goal.returns-in-3
returns-in-3 c = arm c.args.angle (pos 3) (omega (arith, ints)) angle3

pub returns-in-6 : goal.returns-in-6
returns-in-6 c = arm c.args.angle (pos 6) (omega (arith, ints)) angle6

pub returns-in-7 : goal.returns-in-7
returns-in-7 c = arm c.args.angle (pos 7) (omega (arith, ints)) angle7

pub returns-in-8 : goal.returns-in-8
returns-in-8 c = arm c.args.angle (pos 8) (omega (arith, ints)) angle8

pub returns-in-11 : goal.returns-in-11
returns-in-11 c = arm c.args.angle (pos 11) (omega (arith, ints)) angle11

pub returns-in-12 : goal.returns-in-12
returns-in-12 c = arm c.args.angle (pos 12) (omega (arith, ints)) angle12

pub returns-in-14 : goal.returns-in-14
returns-in-14 c = arm c.args.angle (pos 14) (omega (arith, ints)) angle14

pub returns-in-15 : goal.returns-in-15
returns-in-15 c = arm c.args.angle (pos 15) (omega (arith, ints)) angle15

pub returns-in-16 : goal.returns-in-16
returns-in-16 c = arm c.args.angle (pos 16) (omega (arith, ints)) angle16

pub returns-in-19 : goal.returns-in-19
returns-in-19 c = arm c.args.angle (pos 19) (omega (arith, ints)) angle19

pub returns-in-22 : goal.returns-in-22
returns-in-22 c = arm c.args.angle (pos 22) (omega (arith, ints)) angle22

pub returns-in-23 : goal.returns-in-23
returns-in-23 c = arm c.args.angle (pos 23) (omega (arith, ints)) angle23

pub returns-in-24 : goal.returns-in-24
returns-in-24 c = arm c.args.angle (pos 24) (omega (arith, ints)) angle24

pub returns-in-27 : goal.returns-in-27
returns-in-27 c = arm c.args.angle (pos 27) (omega (arith, ints)) angle27

pub returns-in-28 : goal.returns-in-28
returns-in-28 c = arm c.args.angle (pos 28) (omega (arith, ints)) angle28

pub returns-in-30 : goal.returns-in-30
returns-in-30 c = arm c.args.angle (pos 30) (omega (arith, ints)) angle30

pub returns-in-31 : goal.returns-in-31
returns-in-31 c = arm c.args.angle (pos 31) (omega (arith, ints)) angle31

pub returns-in-48 : goal.returns-in-48
returns-in-48 c = arm c.args.angle (pos 48) (omega (arith, ints)) angle48

pub returns-in-68 : goal.returns-in-68
returns-in-68 c = arm c.args.angle (pos 68) (omega (arith, ints)) angle68

pub returns-in-72 : goal.returns-in-72
returns-in-72 c = arm c.args.angle (pos 72) (omega (arith, ints)) angle72

pub returns-in-84 : goal.returns-in-84
returns-in-84 c = arm c.args.angle (pos 84) (omega (arith, ints)) angle84

pub returns-in-112 : goal.returns-in-112
returns-in-112 c = arm c.args.angle (pos 112) (omega (arith, ints)) angle112
