use mathlib.Core.Path.{◌≡◌, sym, ap, ◌∙◌}
use mathlib.Core.Bool.{Bool}
use Prim.Native.Nat.{ℕ, ◌+◌, ◌*◌, ◌^◌, ◌≤◌, ◌<◌}
use native.Mathlib.Nat.{pow-suc}
use native.Mathlib.Numerals.{add-one}
use native.Mathlib.Omega.{arith}
use lib.Pow.{pow_mono}
use Rattle.blocks.specs.Block.{live}
use Rattle.summary.specs.Summary.{live_rows, summary_of}
use Rattle.summary.proofs.Digits.{one_shl}
use Rattle.summary.proofs.Rows.{mask_none, mask_lt, mask_yes, mask_no}
use Rattle.summary.proofs.scan.Goals as goal
use Rattle.summary.proofs.scan.Goals.{Start, else-row_live, then-row_live}

-- row i is live
abbrev row : (s : Start) → ℕ → Bool
row s i = live (i * s.args.n0) s.args.n0 s.args.block.now

pub loop-i-init : goal.loop-i-init
loop-i-init c = (omega arith, mask_none _)

pub row_live-requires : goal.row_live-requires
row_live-requires c = (c.requires.0, c.requires.1, omega arith, c.requires.2)

pub overflow_cast-summary : goal.overflow_cast-summary
overflow_cast-summary c = let h = c.requires.1 in omega arith

pub overflow_shl-summary : goal.overflow_shl-summary
overflow_shl-summary c = let h = c.requires.1 in omega arith

pub overflow_add-summary : goal.overflow_add-summary
overflow_add-summary c =
    let l = c.loop-i in
    let h : l.i < 32 = let m = c.requires.1 in omega arith in
    let f : 2 ^ (l.i + 1) ≤ 2 ^ 32 = pow_mono {i = l.i + 1} {j = 32} (omega arith) in
    let g = rw add-one at f in
    rw (one_shl l.i h, l.invariant.1) (omega (arith, mask_lt (row c.before.before.before.before) l.i, pow-suc 2 l.i))

pub loop-i-preserved : goal.loop-i-preserved
loop-i-preserved c =
    let l = c.loop-i in
    let h : l.i < 32 = let m = c.requires.1 in omega arith in
    let more : ℕ → ℕ = λ x. x + 2 ^ l.i in (
      omega arith,
      elim c.if-row_live.branch [ then-row_live w ↦ rw (one_shl l.i h) at w.summary-is ∙ ap more l.invariant.1 ∙ mask_yes (row c.before.before.before.before) l.i (sym c.row_live.ensures ∙ w.if-row_live.true) | else-row_live w ↦ w.summary-is ∙ l.invariant.1 ∙ mask_no (row c.before.before.before.before) l.i (sym c.row_live.ensures ∙ w.if-row_live.false) ],
    )

pub returns : goal.returns
unfolding summary_of live_rows
returns c =
    let e : c.loop-i.i ≡ c.args.n0 = omega arith in
    rw e at c.loop-i.invariant.1
