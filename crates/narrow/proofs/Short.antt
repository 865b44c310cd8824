-- Numbers of 16 bits: the test, the range, the machine's width.
use mathlib.Core.Path.{◌≡◌, refl, sym, subst}
use mathlib.Core.Bool.{Bool, true, false, ◌&&◌}
use Prim.Native.Nat.{ℕ, ◌^◌, ◌≤◌, ◌<◌}
use native.Mathlib.Omega.{arith}
use Rattle.std.proofs.Common.{Result, Ok, Err, OkIff, is_ok}
use lib.Dec.{leb}
use lib.IntN.{ℤ}
use mir.Syntax.{Width, w16}
use mir.Val.{SFits, hbits}
use borrow.Author.Tests.{leb-true, le-leb, lt-leb}
use Rattle.whole.specs.Parts.{P, N}
use Rattle.whole.specs.Within.{Within}
use Rattle.whole.proofs.Signed.{rd}
use Rattle.whole.proofs.Within.{back, within_sfits, sfits_parts, sfits_P, sfits_N}
use Rattle.narrow.specs.Kept.{short}
use Rattle.narrow.specs.Inner.{short_pair}

-- `&&` as an equation
pub and_left : (a b : Bool) → a && b ≡ true → a ≡ true
and_left true b e = refl
and_left false b e = e

pub and_right : (a b : Bool) → a && b ≡ true → b ≡ true
and_right true b e = e
and_right false b e = cc

pub and_no : (a b : Bool) → b ≡ false → a && b ≡ false
and_no true b e = e
and_no false b e = refl

never : (b : Bool) → (b ≡ true → ⊥) → false ≡ b
never true h = absurd (h refl)
never false h = refl

-- the test and the range
pub short_in : (z : ℤ) → P z ≤ 32767 → N z ≤ 32768 → short z ≡ true
unfolding short
short_in z h k = rw (le-leb (P z) 32767 h, le-leb (N z) 32768 k)

pub short_above : (z : ℤ) → 32767 < P z → short z ≡ false
unfolding short
short_above z h = rw (lt-leb (P z) 32767 h)

pub short_below : (z : ℤ) → 32768 < N z → short z ≡ false
unfolding short
short_below z h = and_no (leb (P z) 32767) (leb (N z) 32768) (lt-leb (N z) 32768 h)

-- the test and the machine's width
pub short_fits : {z : ℤ} → short z ≡ true → SFits w16 z
unfolding short
short_fits {z} e =
    let h = leb-true (P z) 32767 (and_left (leb (P z) 32767) (leb (N z) 32768) e) in
    let k = leb-true (N z) 32768 (and_right (leb (P z) 32767) (leb (N z) 32768) e) in
    sfits_parts w16 z (omega arith) (omega arith)

pub fits_short : {z : ℤ} → SFits w16 z → short z ≡ true
fits_short {z} f = short_in z (omega (arith, sfits_P f)) (sfits_N f)

-- a conversion to the machine's width is the test
pub ok_short : {E : Type 0} (r : Result ℤ E) (z v : ℤ) → OkIff r (SFits w16 z) v → is_ok r ≡ short z
ok_short (Ok x) z v p = sym (fits_short p.0)
ok_short (Err _) z v h = never (short z) (λ e. h (short_fits e))

pub fits_within : {z : ℤ} → SFits w16 z → Within 32768 z
fits_within {z} f = record { hi = omega (arith, sfits_P f); lo = sfits_N f }

pub short_within : {z : ℤ} → short z ≡ true → Within 32768 z
short_within e = fits_within (short_fits e)

pub pair_fits : {x y : ℤ} → short_pair x y ≡ true → SFits w16 x × SFits w16 y
unfolding short_pair
pair_fits {x} {y} e = (short_fits (and_left (short x) (short y) e), short_fits (and_right (short x) (short y) e))

-- read at one width, cast to another
pub cast : (w v : Width) {m : ℕ} {z : ℤ} → m < 2 ^ hbits w → m < 2 ^ hbits v → Within m z → SFits v (rd w z)
cast w v h k b = subst (SFits v) (sym (back w h b)) (within_sfits k b)

pub cast_is : (w v : Width) {m : ℕ} {z : ℤ} → m < 2 ^ hbits w → m < 2 ^ hbits v → Within m z → rd v (rd w z) ≡ z
cast_is w v h k b = rw (back w h b) (back v k b)
