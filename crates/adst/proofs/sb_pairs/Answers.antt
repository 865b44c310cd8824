-- `adst::sb_pairs` meets its contract.
use mathlib.Core.Path.{ap}
use native.Mathlib.Omega.{arith}
use mir.Facts.{to_z-of_z}
use mir.Syntax.{w32}
use Rattle.whole.specs.Steps.{run}
use Rattle.whole.proofs.Signed.{loc, ◌⊖◌, ◌⊗◌, fits, value}
use Rattle.whole.proofs.Steps.{each_more, ok_turn, ok_here}
use Rattle.steps.specs.Step2.{step2}
use Rattle.adst.specs.Inner.{arrays, sb_pair}
use Rattle.adst.proofs.Angles.{turn}
use Rattle.adst.proofs.sb_pairs.Goals as goal

pub overflow_cast-i : goal.overflow_cast-i
overflow_cast-i c = fits w32 (loc (turn c.loop-i.i (omega arith))) tt

pub overflow_mul-by : goal.overflow_mul-by
overflow_mul-by c = fits w32 (loc c.requires.3 ⊗ loc (turn c.loop-i.i (omega arith))) tt

pub overflow_sub-first : goal.overflow_sub-first
overflow_sub-first c = fits w32 (loc c.requires.2 ⊖ loc c.requires.3 ⊗ loc (turn c.loop-i.i (omega arith))) tt

pub sb-requires : goal.sb-requires
sb-requires c =
    let a = c.args in
    let v = rw (to_z-of_z c.ranges.first, to_z-of_z c.ranges.by) at c.loop-i.invariant in
    ok_here (ok_turn (sb_pair a.a a.first a.by) a.count c.requires.4 c.loop-i.i (omega arith) v)

pub loop-i-preserved : goal.loop-i-preserved
unfolding run step2
loop-i-preserved c =
    let a = c.args in
    let v = rw (to_z-of_z c.ranges.first, to_z-of_z c.ranges.by) at c.loop-i.invariant in
    let e = rw (value w32 (loc c.requires.2 ⊖ loc c.requires.3 ⊗ loc (turn c.loop-i.i (omega arith))) tt) at c.sb.ensures in
    rw (to_z-of_z c.ranges.first, to_z-of_z c.ranges.by) (each_more step2 (sb_pair a.a a.first a.by) c.loop-i.i _ v (ap (arrays _) e))
