use mathlib.Core.Path.{sym, ◌∙◌}
use native.Mathlib.Omega.{arith}
use Rattle.summary.proofs.Parts.{live_early, live_late}
use Rattle.summary.proofs.long_live.Goals as goal

pub returns-then-any_live : goal.returns-then-any_live
returns-then-any_live c =
    let a = c.args in
    live_early a.start 2 a.n a.block.now (omega arith) (sym c.any_live.ensures ∙ c.if-any_live.true)

pub returns : goal.returns
returns c =
    let a = c.args in
    live_late a.start 2 a.n a.block.now (omega arith) (sym c.any_live.ensures ∙ c.if-any_live.false) c.any_live_first.ensures
