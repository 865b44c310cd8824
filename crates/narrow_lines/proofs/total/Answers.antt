use mathlib.Core.Path.{◌≡◌, sym, ap, ◌∙◌}
use Prim.Native.Nat.{◌<◌}
use native.Mathlib.Omega.{arith}
use lib.IntN.{pos, nat_abs}
use lib.ListN.{get_or, length-take, take}
use mir.Syntax.{w16}
use mir.Facts.{to_z-of_z}
use Rattle.std.proofs.lemmas.List.{get_or-take}
use Rattle.weights.proofs.Sums.{total_none, total_more}
use Rattle.narrow_lines.proofs.total.Goals as goal

pub loop-x-init : goal.loop-x-init
loop-x-init c = (omega arith, sym (total_none _), omega arith)

pub loop-x-preserved : goal.loop-x-preserved
loop-x-preserved c =
    let l = c.loop-x in
    let i = l.x-index in
    let z = c.args.z.now in
    let within : i < c.args.count = omega (arith, c.loop-x-test.true, length-take c.args.count z) in
    let t = to_z-of_z {w = w16} {z = get_or (take c.args.count z) i (pos 0)} (record { sfits = c.magnitude-arg-1.given }) in
    let e : c.magnitude-all.result ≡ nat_abs (get_or z i (pos 0)) =
    c.magnitude-all.ensures.0 ∙ ap nat_abs (t ∙ get_or-take c.args.count z i (pos 0) within) in
    (omega arith, rw (l.invariant.1, e) (sym (total_more i z)), omega (arith, c.magnitude-all.ensures.1))
