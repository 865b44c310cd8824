use Prim.Native.Nat.{◌-◌, ◌*◌}
use native.Mathlib.Omega.{arith}
use Rattle.whole.specs.Steps.{run, each}
use Rattle.whole.proofs.Steps.{each_more, ok_turn, ok_here}
use Rattle.steps.specs.Step.{step}
use Rattle.dct.specs.Dct.{turn5b}
use Rattle.dct.proofs.stage5b.Goals as goal

pub hadamard-requires : goal.hadamard-requires
hadamard-requires c =
    let n = c.args.n in
    let n0 = c.args.n0 in
    let one = ok_turn (λ i. each 2 (turn5b n0 i)) (2 * n - 6) c.requires.4 c.loop-i.i (omega arith) c.loop-i.invariant in
    ok_here (ok_turn (turn5b n0 c.loop-i.i) 2 one c.loop-j.j (omega arith) c.loop-j.invariant)

pub loop-j-preserved : goal.loop-j-preserved
unfolding run step
loop-j-preserved c = each_more step _ _ _ c.loop-j.invariant c.hadamard.ensures
