-- How far the inverse DCT reaches: inputs within 2^31 through rows and columns, by tests that are computed, and the bounds exactly.
use mathlib.Core.Path.{◌≡◌, refl}
use mathlib.Core.List.{List}
use Prim.Native.Nat.{ℕ, ◌^◌, ◌≤◌}
use lib.Dec.{T}
use lib.IntN.{ℤ}
use lib.ListN.{replicate}
use Rattle.whole.proofs.Within.{EachWithin}
use Rattle.whole.specs.Lists.{fill, move}
use Rattle.whole.specs.Steps.{run, each, when}
use Rattle.whole.specs.Inner.{Ok}
use Rattle.whole.proofs.Steps.{checks}
use Rattle.primitives.specs.Brev.{Brev}
use Rattle.primitives.specs.Cosine.{Cos64, Sin64, cos_at}
use Rattle.steps.specs.Step.{step}
use Rattle.steps.specs.Inner.{Fine}
use Rattle.steps.proofs.Bounds.{after, fine, passes, largest, grown, pass_sound}
use Rattle.dct.specs.Dct.{steps2, steps3, steps4, steps5, steps6, steps7, tail_at, tail, dct_steps, dct_row, dct}
use Rattle.dct.proofs.Dct.{two_to_five}

row_test : (n : ℕ) → 2 ≤ n → n ≤ 5 → T (passes (2 ^ 46) (dct_row n) (2 ^ n) (2 ^ 31) (2 ^ 37))
unfolding passes after fine checks run dct_row dct_steps tail tail_at steps2 steps3 steps4 steps5 steps6 steps7 each when Brev move fill Cos64 Sin64 cos_at
row_test = two_to_five (λ n. T (passes (2 ^ 46) (dct_row n) (2 ^ n) (2 ^ 31) (2 ^ 37))) tt tt tt tt

column_test : (n : ℕ) → 2 ≤ n → n ≤ 5 → T (passes (2 ^ 46) (dct_row n) (2 ^ n) (2 ^ 37) (2 ^ 43))
unfolding passes after fine checks run dct_row dct_steps tail tail_at steps2 steps3 steps4 steps5 steps6 steps7 each when Brev move fill Cos64 Sin64 cos_at
column_test = two_to_five (λ n. T (passes (2 ^ 46) (dct_row n) (2 ^ n) (2 ^ 37) (2 ^ 43))) tt tt tt tt

-- rows: from 2^31 to 2^37; columns: from 2^37, whatever the rows were, to 2^43
pub dct_row_lem : (n : ℕ) → 2 ≤ n → n ≤ 5 → {t : List ℤ} → EachWithin (replicate (2 ^ n) (2 ^ 31)) t
    → Ok step (Fine (2 ^ 46)) (dct_row n) t × EachWithin (replicate (2 ^ n) (2 ^ 37)) (dct n t)
unfolding dct
dct_row_lem n l h b = pass_sound (2 ^ 46) (dct_row n) (2 ^ n) (2 ^ 31) (2 ^ 37) (row_test n l h) b

pub dct_column : (n : ℕ) → 2 ≤ n → n ≤ 5 → {t : List ℤ} → EachWithin (replicate (2 ^ n) (2 ^ 37)) t
    → Ok step (Fine (2 ^ 46)) (dct_row n) t × EachWithin (replicate (2 ^ n) (2 ^ 43)) (dct n t)
unfolding dct
dct_column n l h b = pass_sound (2 ^ 46) (dct_row n) (2 ^ n) (2 ^ 37) (2 ^ 43) (column_test n l h) b

-- the largest bound after rows of 2^n numbers within b, and after columns of those
abbrev rows : ℕ → ℕ → ℕ
rows n b = grown (dct_row n) (2 ^ n) b

abbrev columns : ℕ → ℕ → ℕ
columns n b = rows n (rows n b)

exact27 : (rows 2 (2 ^ 27) ≡ 365174784) × (columns 2 (2 ^ 27) ≡ 993554465)
    × (rows 3 (2 ^ 27) ≡ 851628934) × (columns 3 (2 ^ 27) ≡ 5403696307)
    × (rows 4 (2 ^ 27) ≡ 2116710962) × (columns 4 (2 ^ 27) ≡ 33382067799)
    × (rows 5 (2 ^ 27) ≡ 5356359032) × (columns 5 (2 ^ 27) ≡ 213761494069)
unfolding grown largest after run dct_row dct_steps tail tail_at steps2 steps3 steps4 steps5 steps6 steps7 each when Brev move fill Cos64 Sin64 cos_at
exact27 = (refl, refl, refl, refl, refl, refl, refl, refl)

exact31 : (rows 2 (2 ^ 31) ≡ 5842796544) × (columns 2 (2 ^ 31) ≡ 15896871432)
    × (rows 3 (2 ^ 31) ≡ 13626062944) × (columns 3 (2 ^ 31) ≡ 86459140926)
    × (rows 4 (2 ^ 31) ≡ 33867375385) × (columns 4 (2 ^ 31) ≡ 534113084653)
    × (rows 5 (2 ^ 31) ≡ 85701744476) × (columns 5 (2 ^ 31) ≡ 3420183903713)
unfolding grown largest after run dct_row dct_steps tail tail_at steps2 steps3 steps4 steps5 steps6 steps7 each when Brev move fill Cos64 Sin64 cos_at
exact31 = (refl, refl, refl, refl, refl, refl, refl, refl)

-- columns after rows by the ADST, which end within the bounds of `exact27` and `exact31` there
after_adst : (rows 2 608051200 ≡ 1654363913) × (rows 3 1265082028 ≡ 8027109943) × (rows 4 3239648070 ≡ 51091600818)
    × (rows 2 9728819200 ≡ 26469822600) × (rows 3 20241312441 ≡ 128433759040) × (rows 4 51834369093 ≡ 817465612631)
unfolding grown largest after run dct_row dct_steps tail tail_at steps2 steps3 steps4 steps5 steps6 steps7 each when Brev move fill Cos64 Sin64 cos_at
after_adst = (refl, refl, refl, refl, refl, refl)
