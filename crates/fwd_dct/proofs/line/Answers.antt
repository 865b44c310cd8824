use mathlib.Core.Path.{◌≡◌, refl, ap, ◌∙◌}
use mathlib.Core.List.{List}
use Prim.Native.Nat.{ℕ, ◌+◌, ◌-◌, ◌*◌, ◌/◌, ◌≤◌, ◌<◌}
use native.Mathlib.Omega.{arith}
use lib.IntN.{ℤ, pos, ◌+ℤ◌, ◌-ℤ◌}
use lib.ListN.{length, length-set, get_or, set, replicate}
use mir.Syntax.{w64}
use mir.Val.{to_z, of_z}
use Rattle.whole.specs.Lists.{fill}
use Rattle.whole.proofs.Loops.{times_none, times_more}
use Rattle.whole.proofs.Within.{within_add, within_sub}
use Rattle.whole.proofs.Signed.{rd_ok}
use Rattle.blocks.proofs.Lines.{fill_at}
use Rattle.answers.specs.Sizes.{side}
use Rattle.blocks.specs.Block.{line}
use Rattle.blocks.specs.Inner.{set_line, change_line}
use Rattle.fwd_dct.specs.Inner.{line_of}
use Rattle.fwd_dct.proofs.Lines.{halves, side_most, half_coef, half_within, row_room, turn_even, turn_odd}
use Rattle.fwd_dct.proofs.line.Goals as goal
use Rattle.fwd_dct.proofs.line.Lts as lts
use Rattle.fwd_dct.proofs.line.Tie as tie
use Rattle.fwd_dct.proofs.line.Reads as reads
use Rattle.fwd_dct.proofs.line.Goals.{After-dot-in-loop-m}

-- the place behind a step, with what was known there
abbrev After-dot : Type 0
After-dot = lts.After-dot tie.the-claims reads.Pre reads.Post goal.the-invariant-loop-m goal.the-decreases-loop-m tie.handed_clauses

-- the place behind a step, with what was known there
abbrev In-loop-m : Type 0
In-loop-m = lts.In-loop tie.the-claims reads.Pre reads.Post goal.the-invariant-loop-m goal.the-decreases-loop-m tie.handed_clauses

pub fold-requires : goal.fold-requires
fold-requires c =
    let e = c.side-n0.ensures in
    let d = halves c.args.n c.requires.0 c.requires.1 in
    rw e.0 (omega (arith, side_most c.args.n c.requires.0 c.requires.1), λ k q. c.requires.3 k (omega arith), λ k q. c.requires.4 k (omega arith))

pub loop-m-init : goal.loop-m-init
loop-m-init c = (times_none _ _, refl)

-- in a turn: both coefficients are of the line, and have their places
pair_below : (d : In-loop-m) → 2 * d.loop-m.m + 1 < side d.args.n
pair_below d =
    let e = d.side-n0.ensures.0 in
    let t : d.loop-m.m < side d.args.n / 2 = rw e at d.loop-m-test.true in
    omega (arith, t, halves d.args.n d.requires.0 d.requires.1)

place : (d : In-loop-m) (k : ℕ) → k < side d.args.n → d.args.start + k * d.args.step < length d.loop-m.block
place d k q = rw d.loop-m.invariant.1 (d.requires.3 k q)

row_low : (d : In-loop-m) (k : ℕ) → k < side d.args.n → k * d.stride-next.result + 16 ≤ 1024
row_low d k q = rw d.stride-next.ensures.0 (row_room d.args.n k d.requires.1 q)

-- the two halves of the line
summed : (d : In-loop-m) → let a = d.args in
    d.fold.new.sums ≡ fill (side a.n / 2) (λ i. get_or a.block.now (a.start + i * a.step) (pos 0) +ℤ get_or a.block.now (a.start + (2 * (side a.n / 2) - 1 - i) * a.step) (pos 0)) (replicate 16 (pos 0))
summed d = rw d.side-n0.ensures.0 at d.fold.ensures.added

taken : (d : In-loop-m) → let a = d.args in
    d.fold.new.differences ≡ fill (side a.n / 2) (λ i. get_or a.block.now (a.start + i * a.step) (pos 0) -ℤ get_or a.block.now (a.start + (2 * (side a.n / 2) - 1 - i) * a.step) (pos 0)) (replicate 16 (pos 0))
taken d = rw d.side-n0.ensures.0 at d.fold.ensures.taken

pub dot-requires : goal.dot-requires
dot-requires c =
    let e = c.side-n0.ensures.0 in
    let l = c.requires.0 in
    let h = c.requires.1 in
    rw e (
      omega (arith, side_most c.args.n l h),
      row_low c.before.before (2 * c.loop-m.m) (omega (arith, pair_below c.before.before)),
      half_within c.args.n l h _ (replicate 16 (pos 0)) _ refl (summed c.before.before)
          (λ i q. within_add (c.requires.4 i (omega (arith, halves c.args.n l h))) (c.requires.4 (2 * (side c.args.n / 2) - 1 - i) (omega (arith, halves c.args.n l h)))),
    )

pub dot-requires-in-loop-m : goal.dot-requires-in-loop-m
dot-requires-in-loop-m c =
    let e = c.side-n0.ensures.0 in
    let l = c.requires.0 in
    let h = c.requires.1 in
    rw e (
      omega (arith, side_most c.args.n l h),
      row_low c.before.before.before (2 * c.loop-m.m + 1) (pair_below c.before.before.before),
      half_within c.args.n l h _ (replicate 16 (pos 0)) _ refl (taken c.before.before.before)
          (λ i q. within_sub (c.requires.4 i (omega (arith, halves c.args.n l h))) (c.requires.4 (2 * (side c.args.n / 2) - 1 - i) (omega (arith, halves c.args.n l h)))),
    )

-- what a turn stores
even : (c : After-dot) → let a = c.args in
    to_z w64 (of_z w64 c.dot.result) ≡ get_or (line_of a.n (line a.start a.step (side a.n) a.block.now)) (2 * c.loop-m.m) (pos 0)
even c =
    let e = c.side-n0.ensures.0 in
    let l = c.requires.0 in
    let h = c.requires.1 in
    let k = 2 * c.loop-m.m in
    rd_ok w64 c.dot.type_inv
    ∙ rw (e, c.stride-next.ensures.0) at c.dot.ensures
    ∙ half_coef c.args.n l h c.args.block.now c.args.start c.args.step c.fold.new.sums c.args.basis.now k c.requires.2 (omega (arith, pair_below c.before.before))
    (λ i q. ap (λ (x : List ℤ). get_or x i (pos 0)) (summed c.before.before) ∙ fill_at (side c.args.n / 2) _ (replicate 16 (pos 0)) i (omega (arith, side_most c.args.n l h)) q
    ∙ ap (λ (z : ℤ). get_or c.args.block.now (c.args.start + i * c.args.step) (pos 0) +ℤ z) (turn_even k _ (omega arith)))

odd : (c : After-dot-in-loop-m) → let a = c.args in
    to_z w64 (of_z w64 c.dot-in-loop-m.result) ≡ get_or (line_of a.n (line a.start a.step (side a.n) a.block.now)) (2 * c.loop-m.m + 1) (pos 0)
odd c =
    let e = c.side-n0.ensures.0 in
    let l = c.requires.0 in
    let h = c.requires.1 in
    let k = 2 * c.loop-m.m + 1 in
    rd_ok w64 c.dot-in-loop-m.type_inv
    ∙ rw (e, c.stride-next.ensures.0) at c.dot-in-loop-m.ensures
    ∙ half_coef c.args.n l h c.args.block.now c.args.start c.args.step c.fold.new.differences c.args.basis.now k c.requires.2 (pair_below c.before.before.before.before)
    (λ i q. ap (λ (x : List ℤ). get_or x i (pos 0)) (taken c.before.before.before.before) ∙ fill_at (side c.args.n / 2) _ (replicate 16 (pos 0)) i (omega (arith, side_most c.args.n l h)) q
    ∙ ap (λ (z : ℤ). get_or c.args.block.now (c.args.start + i * c.args.step) (pos 0) +ℤ z) (turn_odd k _ (omega arith)))

pub loop-m-preserved : goal.loop-m-preserved
loop-m-preserved c =
    let l = c.loop-m in
    let a = c.args in
    let f : ℕ → List ℤ → List ℤ = λ k s. set s (a.start + k * a.step) (get_or (line_of a.n (line a.start a.step (side a.n) a.block.now)) k (pos 0)) in
    let e : 2 * (l.m + 1) ≡ 2 * l.m + 1 + 1 = omega arith in (
      rw e (times_more f (2 * l.m + 1) a.block.now (times_more f (2 * l.m) a.block.now l.invariant.0 (ap (λ (z : ℤ). set l.block (a.start + 2 * l.m * a.step) z) (even c.before.before))) (ap (λ (z : ℤ). set (set l.block (a.start + 2 * l.m * a.step) (to_z w64 (of_z w64 c.dot.result))) (a.start + (2 * l.m + 1) * a.step) z) (odd c))),
      simp length-set l.invariant.1,
    )

pub returns : goal.returns
unfolding change_line set_line
returns c =
    let l = c.loop-m in
    let e = c.side-n0.ensures.0 in
    let q : 2 * l.m ≡ side c.args.n = omega (arith, halves c.args.n c.requires.0 c.requires.1, e) in
    rw q at l.invariant.0
