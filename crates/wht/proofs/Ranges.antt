-- How far the inverse WHT reaches: at shift 0 to twice the largest input; from inputs within 2^31 through rows and columns, and the bounds exactly.
use mathlib.Core.Path.{◌≡◌, refl, subst}
use mathlib.Core.Bool.{Bool, true, false}
use mathlib.Core.List.{List}
use Prim.Native.Nat.{ℕ, ◌+◌, ◌*◌, ◌/◌, ◌^◌}
use native.Mathlib.Nat as NatL
use native.Mathlib.Omega.{arith}
use lib.Dec.{T, leb, le→leb}
use lib.IntN.{ℤ}
use lib.ListN.{replicate}
use Rattle.whole.proofs.Within.{EachWithin}
use Rattle.whole.proofs.Tests.{both}
use Rattle.whole.specs.Steps.{run}
use Rattle.whole.proofs.Steps.{checks, ok_here}
use Rattle.steps.specs.Step.{step, Wh}
use Rattle.steps.specs.Inner.{FourWithin}
use Rattle.steps.proofs.Bounds.{shifted, after, fine, passes, largest, grown, step_sound, pass_sound}
use Rattle.wht.specs.Wht.{wht_row, wht}

-- rows: from 2^31 to 2^37; columns: from 2^37 to 2^43, as for the other transforms
pub wht_row_lem : {t : List ℤ} → EachWithin (replicate 4 (2 ^ 31)) t → FourWithin (2 ^ 46) t × EachWithin (replicate 4 (2 ^ 37)) (wht 2 t)
unfolding wht wht_row passes after fine checks run
wht_row_lem b = let r = pass_sound (2 ^ 46) (wht_row 2) 4 (2 ^ 31) (2 ^ 37) tt b in (ok_here r.0, r.1)

pub wht_column : {t : List ℤ} → EachWithin (replicate 4 (2 ^ 37)) t → FourWithin (2 ^ 46) t × EachWithin (replicate 4 (2 ^ 43)) (wht 0 t)
unfolding wht wht_row passes after fine checks run
wht_column b = let r = pass_sound (2 ^ 46) (wht_row 0) 4 (2 ^ 37) (2 ^ 43) tt b in (ok_here r.0, r.1)

exact27 : (grown (wht_row 2) 4 (2 ^ 27) ≡ 67108864) × (grown (wht_row 0) 4 67108864 ≡ 134217728)
unfolding grown largest after run wht_row
exact27 = (refl, refl)

exact31 : (grown (wht_row 2) 4 (2 ^ 31) ≡ 1073741824) × (grown (wht_row 0) 4 1073741824 ≡ 2147483648)
unfolding grown largest after run wht_row
exact31 = (refl, refl)

-- at shift 0, over every bound
all_four : (c : Bool) → T c → T (both (both c c) (both c c))
all_four true h = tt
all_four false h = h

pub wht_grows : {m : ℕ} {t : List ℤ} → EachWithin (replicate 4 m) t → EachWithin (replicate 4 (2 * m)) (wht 0 t)
unfolding wht wht_row run fine after
wht_grows {m} {t} b =
    let r = step_sound m (Wh 0) (replicate 4 m) t (all_four (leb m m) (le→leb m m (NatL.le_refl m))) b in
    let e : (shifted 0 m + shifted 0 m + shifted 0 m + shifted 0 m + 1) / 2 ≡ 2 * m = omega arith in
    subst (λ (n : ℕ). EachWithin (replicate 4 n) (step (Wh 0) t)) e r.1
