use mathlib.Core.Path.{refl, ap, ◌∙◌}
use Prim.Native.Nat.{◌<◌}
use native.Mathlib.Nat.{mul-le-mul}
use native.Mathlib.Omega.{arith}
use lib.ListN.{length}
use Rattle.whole.proofs.Loops.{times_none, times_more, times_done}
use Rattle.answers.specs.Sizes.{side}
use Rattle.blocks.proofs.Lines.{change_line_length}
use Rattle.fwd_dct.specs.Inner.{line_of, first_lines}
use Rattle.fwd_dct.proofs.each_line.Goals as goal

pub loop-i-init : goal.loop-i-init
unfolding first_lines
loop-i-init c = (refl, times_none _ _)

pub overflow_mul-i : goal.overflow_mul-i
overflow_mul-i c = omega (arith, mul-le-mul {n₁ = c.loop-i.i} {n₂ = 32} (omega arith) c.requires.size.2)

pub line-requires : goal.line-requires
line-requires c =
    let l = c.loop-i in
    let r = c.requires in
    let h : l.i < side c.args.n = rw c.side-i-end.ensures.0 at c.loop-i-test.true in
    (r.size.0, r.size.1, r.basis, λ k q. rw l.invariant.0 (r.places l.i k h q), λ k q. rw l.invariant.1 (r.range l.i k h q))

pub loop-i-preserved : goal.loop-i-preserved
unfolding first_lines
loop-i-preserved c =
    let a = c.args in
    let l = c.loop-i in
    let e = c.line.ensures in
    (ap length e ∙ change_line_length (line_of a.n) (λ z. z) _ _ (side a.n) l.block ∙ l.invariant.0, times_more _ l.i _ l.invariant.1 e)

pub returns : goal.returns
unfolding first_lines
returns c =
    let e = c.side-i-end.ensures.0 in times_done _ c.loop-i.i (side c.args.n) _ (omega (arith, e)) (omega (arith, e)) c.loop-i.invariant.1
