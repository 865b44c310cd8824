use mathlib.Core.Path.{◌≡◌, sym, ap, ◌∙◌}
use native.Mathlib.Omega.{arith}
use borrow.Author.Tests.{leb-true}
use lib.IntN.{nat_abs}
use mir.Syntax.{w64}
use mir.ValLaws.{to_z-of_z}
use Rattle.replay.proofs.Tests.{never}
use Rattle.replay.proofs.coder.quantizable.Goals as goal

pub returns-then-bad_quantizer : goal.returns-then-bad_quantizer
returns-then-bad_quantizer c h = never h

pub returns-then-magnitude-gt-COEF : goal.returns-then-magnitude-gt-COEF
returns-then-magnitude-gt-COEF c h = never h

pub returns : goal.returns
returns c h =
    let seen : c.magnitude.result ≡ nat_abs c.args.coef = c.magnitude.ensures ∙ ap nat_abs (to_z-of_z w64 c.args.coef c.ranges.coef) in
    (sym c.bad_quantizer.ensures ∙ c.if-bad_quantizer.false, omega (arith, seen, c.if-magnitude-gt-COEF.false), omega (arith, leb-true c.args.most 262210 h))
