-- The driver with its number of row transforms: its promise from that of the driver, and the law that its rows are all rows.
use mathlib.Core.Path.{◌≡◌, refl, sym, ap, ◌∙◌}
use mathlib.Core.Bool.{Bool, true, false, cond}
use mathlib.Core.List.{List, []}
use Prim.Native.Nat.{ℕ, ◌≤◌}
use borrow.Author.Tests.{eq-eqb, ne_eqb}
use lib.Dec.{eqb}
use lib.IntN.{ℤ}
use lib.ListN.{length}
use Rattle.whole.specs.Steps.{run}
use Rattle.answers.specs.Answers.{Answer, number}
use Rattle.answers.specs.Bad.{any_beyond}
use Rattle.answers.specs.Limits.{COEF_LIMIT}
use Rattle.answers.specs.Sizes.{side, area}
use Rattle.blocks.specs.Block.{rows, columns, change_row, rows_then_columns, only_dc}
use Rattle.blocks.specs.Inner.{Possible}
use Rattle.blocks.specs.Inverse.{apply, row_pass, column_pass, rounding, inverse2d}
use Rattle.blocks.proofs.Passes.{pass_zeros, row_valid}
use Rattle.blocks.proofs.Inverse.{side_most}
use Rattle.summary.specs.Summary.{set_rows, summary_of, live_rows}
use Rattle.summary.proofs.Rows.{scanned}
use Rattle.idct.specs.Driver.{Input, answer_of, block_after}
use Rattle.idct.specs.Rows.{dc_only, row_list, transformed, by_rows, Rowed}
use Rattle.idct.specs.Inner.{shape_of, Tried}
use Rattle.idct.proofs.Answers.{possible, refused, driven}
use Rattle.summary.proofs.ByRows.{over_live}

-- ALL ROWS: the run of the row transform over the rows of a block's own summary is the transform of all rows, because zeros stay zeros
pub all_rows : (n tx_type : ℕ) (lossless : Bool) (s : List ℤ) → Possible n tx_type lossless → area n ≤ length s
    → run (change_row (apply (row_pass tx_type lossless) n) (side n)) (set_rows (summary_of (side n) s)) s ≡ rows (apply (row_pass tx_type lossless) n) (side n) s
all_rows n tx_type lossless s q room =
    let T = apply (row_pass tx_type lossless) n in
    let short = side_most n q.least q.most in
    ap (λ (l : List ℕ). run (change_row T (side n)) l s) (scanned (side n) s short)
    ∙ over_live T (side n) s short room (λ t z. pass_zeros 2 (row_pass tx_type lossless) n (row_valid n tx_type lossless q) z)

-- so both passes come to the residual
pub by_rows_lem : (u : Input) → Possible u.n u.tx_type u.lossless → area u.n ≤ length u.block
    → by_rows u (set_rows (summary_of (side u.n) u.block)) ≡ inverse2d u.n u.tx_type u.lossless u.block
unfolding by_rows inverse2d rows_then_columns
by_rows_lem u q room =
    ap (columns (apply (column_pass u.tx_type u.lossless) u.n) (rounding u.n u.lossless) (side u.n))
    (all_rows u.n u.tx_type u.lossless u.block q room)

-- ---- the count: of the live rows, and of none in the DC-only case
pub live_counted : (u : Input) {k : ℕ} → side u.n ≤ 32 → dc_only u ≡ false → k ≡ length (live_rows (side u.n) u.block) → k ≡ length (row_list u)
unfolding row_list
live_counted u short w e = e ∙ rw w (ap length (sym (scanned (side u.n) u.block short)))

pub none_counted : (u : Input) {k : ℕ} → dc_only u ≡ true → k ≡ 0 → k ≡ length (row_list u)
unfolding row_list
none_counted u w e = e ∙ rw w

pub lossy_dc : (s : List ℤ) (n tx_type : ℕ) → dc_only (record { block = s; n = n; tx_type = tx_type; lossless = false }) ≡ only_dc (area n) tx_type s
unfolding dc_only
lossy_dc s n tx_type = refl

pub lossless_counted : (s : List ℤ) (n tx_type : ℕ) {k : ℕ} → side n ≤ 32 → k ≡ length (live_rows (side n) s)
    → k ≡ length (row_list (record { block = s; n = n; tx_type = tx_type; lossless = true }))
unfolding dc_only
lossless_counted s n tx_type short e = live_counted (record { block = s; n = n; tx_type = tx_type; lossless = true }) short refl e

by_dc : (b : Bool) {l m : List ℕ} → l ≡ m → cond b 0 (length l) ≡ length (cond b [] m)
by_dc true e = refl
by_dc false e = ap length e

pub lossy_counted : (s : List ℤ) (n tx_type : ℕ) {k : ℕ} → side n ≤ 32 → k ≡ cond (only_dc (area n) tx_type s) 0 (length (live_rows (side n) s))
    → k ≡ length (row_list (record { block = s; n = n; tx_type = tx_type; lossless = false }))
unfolding row_list dc_only
lossy_counted s n tx_type short e = e ∙ by_dc (only_dc (area n) tx_type s) (sym (scanned (side n) s short))

-- ---- the promise
pub rowed_refused : (u : Input) (a : Answer) {b : Answer} {k : ℕ} → number a ≡ shape_of (length u.block) u.n u.tx_type u.lossless → (number a ≡ 0 → ⊥)
    → b ≡ a → k ≡ 0 → Rowed u b k u.block
unfolding transformed
rowed_refused u a e h same z =
    let d = refused u a e h in
    let f : eqb (answer_of u) 0 ≡ false = ne_eqb (answer_of u) 0 (λ q. h (d.answered ∙ q)) in
    record { answered = rw same d.answered; written = d.written; counted = rw f z; passed = λ q _. absurd (h (d.answered ∙ q)) }

by_beyond : (b : Bool) (l : List ℕ) → cond b 0 (length l) ≡ length (cond (eqb (cond b 9 0) 0) l [])
by_beyond true l = refl
by_beyond false l = refl

pub rowed : (u : Input) {a : Answer} {k : ℕ} {after : List ℤ} → shape_of (length u.block) u.n u.tx_type u.lossless ≡ 0 → Tried u a k after → Rowed u a k after
unfolding transformed row_list block_after
rowed u {a} {k} {after} fine t =
    let d = driven u a after fine (record { answered = t.answered; written = t.written }) in
    let g = sym d.answered ∙ t.answered in
    let p = possible (length u.block) u.n u.tx_type u.lossless fine in
    record {
      answered = d.answered;
      written = d.written;
      counted = t.counted ∙ rw g (by_beyond (any_beyond COEF_LIMIT (area u.n) u.block) (row_list u));
      passed = λ z w. let f : eqb (answer_of u) 0 ≡ true = eq-eqb (answer_of u) 0 z in rw (f, w) (rw f at d.written ∙ sym (by_rows_lem u p.0 p.1));
    }
