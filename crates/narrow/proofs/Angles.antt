-- Rotations by a literal cosine and sine are those of the angle that has them, by computation.
use mathlib.Core.Path.{◌≡◌, refl, sym, subst, ◌∙◌}
use mathlib.Core.Bool.{Bool, true}
use mathlib.Core.List.{List}
use Prim.Native.Nat.{ℕ, ◌<◌}
use lib.IntN.{ℤ, pos, negsuc}
use Rattle.whole.specs.Within.{Within}
use Rattle.primitives.specs.Cosine.{cos_at, Cos64, Sin64}
use Rattle.primitives.specs.Rotations.{set_pair, apply_b, apply_sb, turn_x, turn_y}
use Rattle.primitives.proofs.Cosine.{cos_within, sin_within}
use Rattle.steps.specs.Step.{Bf, step}
use Rattle.steps.specs.Step2.{Arrays, SB, step2}
use Rattle.adst.specs.Inner.{arrays}
use Rattle.narrow.specs.Inner.{fits, spin_x, spin_y, spin_fits, spin, Turns, Fine16}
use Rattle.narrow.proofs.Tried.{Told}

-- cos and sin are those of an angle
pub record Angle (angle cos sin : ℤ) : Type 0 where
  pub cos_is : cos ≡ Cos64 angle
  pub sin_is : sin ≡ Sin64 angle

module _ {g cos sin : ℤ} (h : Angle g cos sin) where
  -- what a rotation asks
  pub turns : {a b : ℕ} → a < 32 → b < 32 → Turns a b cos sin
  turns p q = (p, q, subst (Within 16384) (sym h.cos_is) (cos_within g), subst (Within 16384) (sym h.sin_is) (sin_within g))

  -- B: what it stores, and whether that fits
  pub spun : (t : List ℤ) (a b : ℕ) (f : Bool) → spin t a b cos sin f ≡ step (Bf a b g f) t
  unfolding spin spin_x spin_y step apply_b turn_x turn_y
  spun t a b f = rw (h.cos_is, h.sin_is)

  pub spun_fits : (t : List ℤ) (a b : ℕ) (f : Bool) → spin_fits t a b cos sin ≡ fits (Bf a b g f) t
  unfolding spin_fits spin_x spin_y fits turn_x turn_y
  spun_fits t a b f = rw (h.cos_is, h.sin_is)

  -- the unchecked form asks no more than its step, and does it
  pub asks : (a b : ℕ) (f : Bool) (t : List ℤ) → Fine16 (Bf a b g f) t → Turns a b cos sin × (spin_fits t a b cos sin ≡ true)
  asks a b f t k = (turns k.0 k.1, spun_fits t a b f ∙ k.2)

  pub does : (a b : ℕ) (f : Bool) (t : List ℤ) {u : List ℤ} → u ≡ spin t a b cos sin f → u ≡ step (Bf a b g f) t
  does a b f t e = e ∙ spun t a b f

  -- the checked form tells of its step
  pub tells : (a b : ℕ) (f : Bool) (t : List ℤ) {u : List ℤ} {r : Bool} → (r ≡ spin_fits t a b cos sin) × (r ≡ true → u ≡ spin t a b cos sin f) → Told step fits (Bf a b g f) t r u
  tells a b f t o = (o.0 ∙ spun_fits t a b f, λ e. o.1 e ∙ spun t a b f)

  -- SB
  pub does_S : (a b : ℕ) (f : Bool) (v : Arrays) {u : List ℤ} → u ≡ set_pair v.S a b (spin_x v.T a b cos sin) (spin_y v.T a b cos sin) f → arrays v.T u ≡ step2 (SB a b g f) v
  unfolding spin_x spin_y step2 apply_sb turn_x turn_y
  does_S a b f v e = rw (e, h.cos_is, h.sin_is)

-- ---- the angles of the transforms
pub angle_back20 : Angle (negsuc 19) (pos 9102) (negsuc 13622)
unfolding Cos64 Sin64 cos_at
angle_back20 = record { cos_is = refl; sin_is = refl }

pub angle_back4 : Angle (negsuc 3) (pos 16069) (negsuc 3195)
unfolding Cos64 Sin64 cos_at
angle_back4 = record { cos_is = refl; sin_is = refl }

pub angle3 : Angle (pos 3) (pos 16207) (pos 2404)
unfolding Cos64 Sin64 cos_at
angle3 = record { cos_is = refl; sin_is = refl }

pub angle6 : Angle (pos 6) (pos 15679) (pos 4756)
unfolding Cos64 Sin64 cos_at
angle6 = record { cos_is = refl; sin_is = refl }

pub angle7 : Angle (pos 7) (pos 15426) (pos 5520)
unfolding Cos64 Sin64 cos_at
angle7 = record { cos_is = refl; sin_is = refl }

pub angle8 : Angle (pos 8) (pos 15137) (pos 6270)
unfolding Cos64 Sin64 cos_at
angle8 = record { cos_is = refl; sin_is = refl }

pub angle11 : Angle (pos 11) (pos 14053) (pos 8423)
unfolding Cos64 Sin64 cos_at
angle11 = record { cos_is = refl; sin_is = refl }

pub angle12 : Angle (pos 12) (pos 13623) (pos 9102)
unfolding Cos64 Sin64 cos_at
angle12 = record { cos_is = refl; sin_is = refl }

pub angle14 : Angle (pos 14) (pos 12665) (pos 10394)
unfolding Cos64 Sin64 cos_at
angle14 = record { cos_is = refl; sin_is = refl }

pub angle15 : Angle (pos 15) (pos 12140) (pos 11003)
unfolding Cos64 Sin64 cos_at
angle15 = record { cos_is = refl; sin_is = refl }

pub angle16 : Angle (pos 16) (pos 11585) (pos 11585)
unfolding Cos64 Sin64 cos_at
angle16 = record { cos_is = refl; sin_is = refl }

pub angle19 : Angle (pos 19) (pos 9760) (pos 13160)
unfolding Cos64 Sin64 cos_at
angle19 = record { cos_is = refl; sin_is = refl }

pub angle22 : Angle (pos 22) (pos 7723) (pos 14449)
unfolding Cos64 Sin64 cos_at
angle22 = record { cos_is = refl; sin_is = refl }

pub angle23 : Angle (pos 23) (pos 7005) (pos 14811)
unfolding Cos64 Sin64 cos_at
angle23 = record { cos_is = refl; sin_is = refl }

pub angle24 : Angle (pos 24) (pos 6270) (pos 15137)
unfolding Cos64 Sin64 cos_at
angle24 = record { cos_is = refl; sin_is = refl }

pub angle27 : Angle (pos 27) (pos 3981) (pos 15893)
unfolding Cos64 Sin64 cos_at
angle27 = record { cos_is = refl; sin_is = refl }

pub angle28 : Angle (pos 28) (pos 3196) (pos 16069)
unfolding Cos64 Sin64 cos_at
angle28 = record { cos_is = refl; sin_is = refl }

pub angle30 : Angle (pos 30) (pos 1606) (pos 16305)
unfolding Cos64 Sin64 cos_at
angle30 = record { cos_is = refl; sin_is = refl }

pub angle31 : Angle (pos 31) (pos 804) (pos 16364)
unfolding Cos64 Sin64 cos_at
angle31 = record { cos_is = refl; sin_is = refl }

pub angle48 : Angle (pos 48) (negsuc 11584) (pos 11585)
unfolding Cos64 Sin64 cos_at
angle48 = record { cos_is = refl; sin_is = refl }

pub angle68 : Angle (pos 68) (negsuc 16068) (negsuc 3195)
unfolding Cos64 Sin64 cos_at
angle68 = record { cos_is = refl; sin_is = refl }

pub angle72 : Angle (pos 72) (negsuc 15136) (negsuc 6269)
unfolding Cos64 Sin64 cos_at
angle72 = record { cos_is = refl; sin_is = refl }

pub angle84 : Angle (pos 84) (negsuc 9101) (negsuc 13622)
unfolding Cos64 Sin64 cos_at
angle84 = record { cos_is = refl; sin_is = refl }

pub angle112 : Angle (pos 112) (pos 11585) (negsuc 11584)
unfolding Cos64 Sin64 cos_at
angle112 = record { cos_is = refl; sin_is = refl }
