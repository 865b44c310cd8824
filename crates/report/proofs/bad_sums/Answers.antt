use mathlib.Core.Path.{◌≡◌, sym, ◌∙◌}
use Prim.Native.Nat.{◌+◌}
use native.Mathlib.Omega.{arith}
use borrow.Author.Tests.{lt-ltb, le-ltb}
use Rattle.whole.proofs.Tests.{any_none, any_hit}
use Rattle.blocks.proofs.Live.{any_next}
use Rattle.report.proofs.Above.{sums_are}
use Rattle.report.proofs.bad_sums.Goals as goal
use Rattle.report.proofs.bad_sums.Goals.{else-from-sums, then-from-sums}

pub loop-k-preserved : goal.loop-k-preserved
loop-k-preserved c =
    let w = c.from in
    let a = c.args in (
      omega arith,
      elim c.if-from-sums.branch [ then-from-sums h ↦ h.bad-is ∙ sym (any_hit _ c.loop-k.k (c.loop-k.k + 1) (omega arith) (rw w.ensures at (lt-ltb _ _ h.if-from-sums.true))) | else-from-sums h ↦ any_next _ c.loop-k.k (h.bad-is ∙ c.loop-k.invariant.1) (rw w.ensures at (le-ltb _ _ h.if-from-sums.false)) ],
    )

pub returns : goal.returns
returns c =
    let e : c.loop-k.k ≡ 44 = omega arith in
    sums_are c.args.counts.now c.args.sums.now (rw e at c.loop-k.invariant.1)

pub loop-k-init : goal.loop-k-init
loop-k-init c = (omega arith, sym (any_none _))
