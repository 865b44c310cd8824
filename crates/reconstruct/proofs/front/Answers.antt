-- `reconstruct::front` meets its contract.
use mathlib.Core.Path.{ap, ◌∙◌}
use native.Mathlib.Omega.{arith}
use lib.IntN.{pos}
use lib.ListN.{get_or, set, replicate}
use mir.Syntax.{w64}
use mir.ValLaws.{to_z-of_z}
use Rattle.whole.proofs.Lists.{fill_none, fill_more, fill_done, fill_all}
use Rattle.reconstruct.proofs.front.Goals as goal

pub loop-k-preserved : goal.loop-k-preserved
loop-k-preserved c =
    let l = c.loop-k in
    let s = c.args.block.now in
    let e = to_z-of_z w64 (get_or s l.k (pos 0)) (record { sfits = c.few-1.given }) in
    (omega arith, fill_more _ _ l.k l.invariant.1 (ap (set l.few l.k) e))

pub returns : goal.returns
returns c = fill_done _ _ c.loop-k.k 16 (omega arith) (omega arith) c.loop-k.invariant.1 ∙ fill_all (pos 0) _ (replicate 16 (pos 0))

pub loop-k-init : goal.loop-k-init
loop-k-init c = (omega arith, fill_none _ _)
