use mathlib.Core.Path.{◌≡◌, ◌∙◌}
use native.Mathlib.Omega.{arith}
use borrow.Author.Rules.{rules}
use Rattle.blocks.proofs.Live.{live_none, live_next, live_hit}
use Rattle.blocks.proofs.any_live.Goals as goal
use Rattle.blocks.proofs.any_live.Goals.{then-s-start-ne0, else-s-start-ne0}

pub loop-k-init : goal.loop-k-init
loop-k-init c = (omega arith, live_none _ _)

pub loop-k-preserved : goal.loop-k-preserved
loop-k-preserved c = (
  search rules,
  elim c.if-s-start-ne0.branch [
    | then-s-start-ne0 w ↦ w.any-is ∙ live_hit _ _ c.loop-k.k w.if-s-start-ne0.true
    | else-s-start-ne0 w ↦ live_next _ _ c.loop-k.k (w.any-is ∙ c.loop-k.invariant.1) (record { sfits = c.t10-1.given }) w.if-s-start-ne0.false
  ],
)

pub returns : goal.returns
returns c =
    let e : c.args.n ≡ c.loop-k.k = omega arith in
    rw e c.loop-k.invariant.1
