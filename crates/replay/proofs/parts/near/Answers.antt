use mathlib.Core.Path.{ap, ◌∙◌}
use native.Mathlib.Omega.{arith}
use lib.IntN.{pos, nat_abs}
use lib.ListN.{get_or}
use mir.Syntax.{w64}
use mir.ValLaws.{to_z-of_z}
use Rattle.replay.proofs.Tests.{never, tested}
use Rattle.replay.proofs.parts.near.Goals as goal

pub returns-then-count-k : goal.returns-then-count-k
returns-then-count-k c h = never h

pub returns-then-list-k : goal.returns-then-list-k
returns-then-list-k c h = never h

pub returns : goal.returns
returns c h =
    let x = get_or c.args.list.now c.args.k (pos 0) in
    let e = to_z-of_z w64 x (record { sfits = c.x-1.given }) in
    (omega arith, tested c.magnitude.result c.args.most (c.magnitude.ensures ∙ ap nat_abs e) h)
