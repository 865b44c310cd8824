use mathlib.Core.Path.{ap, ◌∙◌}
use native.Mathlib.Omega.{arith}
use lib.IntN.{pos}
use mir.Syntax.{w32}
use Rattle.std.proofs.lemmas.Int.{wrapping_sub_is}
use Rattle.primitives.proofs.Cosine.{sin_wrap}
use Rattle.primitives.proofs.Out.{out}
use Rattle.primitives.specs.Cosine.{Cos64}
use Rattle.primitives.proofs.sin64.Goals as goal

pub returns : goal.returns
returns c =
    let z = c.args.angle in
    out c.cos64.ensures.1 (c.cos64.ensures.0 ∙ ap Cos64 (wrapping_sub_is w32 z (pos 32) c.ranges.angle (record { sfits = omega arith })) ∙ sin_wrap z)
