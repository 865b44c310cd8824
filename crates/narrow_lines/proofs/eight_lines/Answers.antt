-- `narrow_lines::eight_lines` meets its contract.
use mathlib.Core.Path.{◌≡◌}
use mathlib.Core.Bool.{false}
use Prim.Native.Nat.{◌*◌}
use native.Mathlib.Omega.{arith}
use Rattle.narrow_lines.proofs.Strips.{into}
use Rattle.narrow_lines.proofs.eight_lines.Goals as goal

pub eight-requires-else-n-eq3-2 : goal.eight-requires-else-n-eq3-2
eight-requires-else-n-eq3-2 g c =
    let four : c.args.n ≡ 4 = omega (arith, c.requires.0, c.requires.2 c.if-use_dct.false, c.if-n-eq3-2.false) in
    into g.D.Direction.goes_down c.args.use_dct false c.args.n 4 (8 * c.args.q) c.args.z.now c.if-use_dct.false four c.requires.3 c.requires.4 c.requires.5
