use mathlib.Core.Path.{◌≡◌}
use Prim.Native.Nat.{◌+◌, ◌*◌, ◌/◌}
use native.Mathlib.Omega.{arith}
use lib.IntN.{pos}
use mir.Syntax.{w32}
use mir.Val.{to_z}
use mir.Facts.{to_z_pos}
use Rattle.whole.specs.Steps.{run, each}
use Rattle.whole.proofs.Steps.{each_more, ok_turn, ok_here}
use Rattle.steps.specs.Step.{step}
use Rattle.dct.specs.Dct.{turn5a}
use Rattle.dct.proofs.stage5a.Goals as goal

pub butterfly-requires : goal.butterfly-requires
butterfly-requires c =
    let n = c.args.n in
    let n0 = c.args.n0 in
    let one = ok_turn (λ i. each 2 (turn5a n n0 i)) (n / 5 + 1) c.requires.4 c.loop-i.i (omega arith) c.loop-i.invariant in
    ok_here (ok_turn (turn5a n n0 c.loop-i.i) 2 one c.loop-j.j (omega arith) c.loop-j.invariant)

pub loop-j-preserved : goal.loop-j-preserved
unfolding run step
loop-j-preserved c =
    let e : to_z w32 (24 + 48 * c.loop-j.j) ≡ pos (24 + 48 * c.loop-j.j) = to_z_pos w32 (omega arith) in
    each_more step _ _ _ c.loop-j.invariant (rw e at c.butterfly.ensures)
