-- How far the inverse ADST reaches: inputs within 2^31 through rows and columns, by tests that are computed, and the bounds exactly.
use mathlib.Core.Path.{◌≡◌, refl}
use mathlib.Core.List.{List}
use Prim.Native.Nat.{ℕ, ◌^◌, ◌≤◌}
use lib.Dec.{T}
use lib.IntN.{ℤ}
use lib.ListN.{replicate}
use Rattle.whole.proofs.Within.{EachWithin}
use Rattle.whole.specs.Lists.{fill, move}
use Rattle.whole.specs.Steps.{run, each}
use Rattle.whole.specs.Inner.{Ok}
use Rattle.whole.proofs.Steps.{checks}
use Rattle.primitives.specs.Cosine.{Cos64, Sin64, cos_at}
use Rattle.steps.specs.Step2.{step2, fresh}
use Rattle.steps.specs.Inner.{Fine2}
use Rattle.steps.proofs.Bounds.{after, fine, after2, fine2, passes2, largest, grown2, pass_sound2}
use Rattle.adst.specs.Adst.{adst_in, out8, out16, adst_out, on_t, adst8_steps, adst16_steps, adst_steps, adst}
use Rattle.adst.proofs.Adst.{two_to_four}

row_test : (n : ℕ) → 2 ≤ n → n ≤ 4 → T (passes2 (2 ^ 46) (adst_steps n) (2 ^ n) (2 ^ 31) (2 ^ 37))
unfolding passes2 after fine after2 fine2 checks run adst_steps adst8_steps adst16_steps adst_in adst_out out8 out16 on_t each move fill Cos64 Sin64 cos_at
row_test = two_to_four (λ n. T (passes2 (2 ^ 46) (adst_steps n) (2 ^ n) (2 ^ 31) (2 ^ 37))) tt tt tt

column_test : (n : ℕ) → 2 ≤ n → n ≤ 4 → T (passes2 (2 ^ 46) (adst_steps n) (2 ^ n) (2 ^ 37) (2 ^ 43))
unfolding passes2 after fine after2 fine2 checks run adst_steps adst8_steps adst16_steps adst_in adst_out out8 out16 on_t each move fill Cos64 Sin64 cos_at
column_test = two_to_four (λ n. T (passes2 (2 ^ 46) (adst_steps n) (2 ^ n) (2 ^ 37) (2 ^ 43))) tt tt tt

-- rows: from 2^31 to 2^37; columns: from 2^37, whatever the rows were, to 2^43
pub adst_row : (n : ℕ) → 2 ≤ n → n ≤ 4 → {t : List ℤ} → EachWithin (replicate (2 ^ n) (2 ^ 31)) t
    → Ok step2 (Fine2 (2 ^ 46)) (adst_steps n) (fresh t) × EachWithin (replicate (2 ^ n) (2 ^ 37)) (adst n t)
unfolding adst
adst_row n l h b = pass_sound2 (2 ^ 46) (adst_steps n) (2 ^ n) (2 ^ 31) (2 ^ 37) (row_test n l h) b

pub adst_column : (n : ℕ) → 2 ≤ n → n ≤ 4 → {t : List ℤ} → EachWithin (replicate (2 ^ n) (2 ^ 37)) t
    → Ok step2 (Fine2 (2 ^ 46)) (adst_steps n) (fresh t) × EachWithin (replicate (2 ^ n) (2 ^ 43)) (adst n t)
unfolding adst
adst_column n l h b = pass_sound2 (2 ^ 46) (adst_steps n) (2 ^ n) (2 ^ 37) (2 ^ 43) (column_test n l h) b

-- the largest bound after rows of 2^n numbers within b, and after columns of those; between two kinds, columns of what the inverse DCT's rows reach
abbrev reach : ℕ → ℕ → ℕ
reach n b = grown2 (adst_steps n) (2 ^ n) b

exact27 : (reach 2 (2 ^ 27) ≡ 608051200) × (reach 2 608051200 ≡ 2754675313) × (reach 2 365174784 ≡ 1654363913)
    × (reach 3 (2 ^ 27) ≡ 1265082028) × (reach 3 1265082028 ≡ 11924151608) × (reach 3 851628934 ≡ 8027109939)
    × (reach 4 (2 ^ 27) ≡ 3239648070) × (reach 4 3239648070 ≡ 78196224657) × (reach 4 2116710962 ≡ 51091600799)
unfolding grown2 largest after after2 run adst_steps adst8_steps adst16_steps adst_in adst_out out8 out16 on_t each move fill Cos64 Sin64 cos_at
exact27 = (refl, refl, refl, refl, refl, refl, refl, refl, refl)

exact31 : (reach 2 (2 ^ 31) ≡ 9728819200) × (reach 2 9728819200 ≡ 44074805000) × (reach 2 5842796544 ≡ 26469822600)
    × (reach 3 (2 ^ 31) ≡ 20241312441) × (reach 3 20241312441 ≡ 190786425647) × (reach 3 13626062944 ≡ 128433759042)
    × (reach 4 (2 ^ 31) ≡ 51834369093) × (reach 4 51834369093 ≡ 1251139593887) × (reach 4 33867375385 ≡ 817465612621)
unfolding grown2 largest after after2 run adst_steps adst8_steps adst16_steps adst_in adst_out out8 out16 on_t each move fill Cos64 Sin64 cos_at
exact31 = (refl, refl, refl, refl, refl, refl, refl, refl, refl)
