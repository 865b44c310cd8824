-- `adst::sh_halves` meets its contract.
use mathlib.Core.Path.{ap}
use native.Mathlib.Omega.{arith}
use Rattle.whole.specs.Steps.{run}
use Rattle.whole.proofs.Steps.{each_more, ok_turn, ok_here}
use Rattle.steps.specs.Step2.{step2}
use Rattle.adst.specs.Inner.{arrays, sh_half}
use Rattle.adst.proofs.sh_halves.Goals as goal

pub sh-requires : goal.sh-requires
sh-requires c = let a = c.args in ok_here (ok_turn (sh_half a.a a.count) a.count c.requires.2 c.loop-i.i (omega arith) c.loop-i.invariant)

pub loop-i-preserved : goal.loop-i-preserved
unfolding run step2
loop-i-preserved c =
    let a = c.args in
    each_more step2 (sh_half a.a a.count) c.loop-i.i _ c.loop-i.invariant (ap (λ u. arrays u a.s.now) c.sh.ensures)
