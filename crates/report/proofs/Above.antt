-- The test of a report, entry by entry, and the room that one has that passes.
use mathlib.Core.Path.{◌≡◌, refl, sym}
use mathlib.Core.Bool.{Bool, true, false, ◌||◌}
use mathlib.Core.List.{List}
use Prim.Native.Nat.{ℕ, ◌+◌, ◌*◌, ◌≤◌, ◌<◌}
use native.Mathlib.Nat as NatL
use native.Mathlib.Numerals.{add-one}
use native.Mathlib.Omega.{arith}
use borrow.Author.Tests.{lt-ltb, ltb-false}
use lib.Dec.{ltb}
use lib.ListN.{get_or}
use Rattle.whole.specs.Tests.{any_below}
use Rattle.whole.proofs.Tests.{any_at}
use Rattle.answers.specs.Limits.{codeable}
use Rattle.report.specs.Classes.{sum_below}
use Rattle.report.specs.Report.{ENTRIES, TOTAL_LIMIT, total, bad_total, bad_sums}
use Rattle.report.specs.Inner.{Room}
use Rattle.report.proofs.OneClass.{sum_part}

pub sum_none : (f : ℕ → ℕ) → 0 ≡ sum_below f 0
unfolding sum_below
sum_none f = refl

pub sum_more : (f : ℕ → ℕ) (k : ℕ) {t : ℕ} → t ≡ sum_below f k → t + f k ≡ sum_below f (k + 1)
unfolding sum_below
sum_more f k e = rw (e, add-one k)

pub total_is : (counts : List ℕ) {t : ℕ} → t ≡ sum_below (λ k. get_or counts k 0) ENTRIES → t ≡ total counts
unfolding total
total_is counts e = e

pub sums_are : (counts sums : List ℕ) {b : Bool} → b ≡ any_below (λ k. ltb (get_or counts k 0 * codeable 12) (get_or sums k 0)) ENTRIES → b ≡ bad_sums counts sums
unfolding bad_sums
sums_are counts sums e = e

pub bad_total_lem : (more : ℕ) (counts : List ℕ) {t : ℕ} → t ≡ total counts → ltb TOTAL_LIMIT (t + more) ≡ bad_total more counts
unfolding bad_total
bad_total_lem more counts e = rw e

pub too_many : (more : ℕ) (counts : List ℕ) → TOTAL_LIMIT < more → true ≡ bad_total more counts
unfolding bad_total
too_many more counts h = sym (lt-ltb TOTAL_LIMIT (total counts + more) (omega arith))

neither : (a b : Bool) → a || b ≡ false → (a ≡ false) × (b ≡ false)
neither true b h = (h, cc)
neither false b h = (refl, h)

-- a report that passes has room for the tokens
pub room : (n : ℕ) (counts sums : List ℕ) → bad_total n counts || bad_sums counts sums ≡ false → Room n counts sums
unfolding bad_total bad_sums total
room n counts sums h =
    let g = neither (bad_total n counts) (bad_sums counts sums) h in
    let t = ltb-false TOTAL_LIMIT (total counts + n) g.0 in
    record {
      few = λ k l. omega (arith, t, sum_part (λ k. get_or counts k 0) ENTRIES k l);
      small = λ k l. let c = get_or counts k 0 in
          omega (
            arith,
            ltb-false (c * codeable 12) (get_or sums k 0) (any_at _ ENTRIES k g.1 l),
            NatL.add-mul c n (codeable 12),
            NatL.mul-le-mul_right (codeable 12) (let m : c + n ≤ TOTAL_LIMIT = omega (arith, t, sum_part (λ k. get_or counts k 0) ENTRIES k l) in m),
          );
    }
