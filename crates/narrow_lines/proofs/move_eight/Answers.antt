-- `narrow_lines::move_eight` meets its contract.
use mir.Syntax.{w16}
use mir.Facts.{to_z-of_z}
use borrow.Author.Rules.{rules}
use Rattle.whole.proofs.Loops.{loops, times_more}
use Rattle.narrow_lines.proofs.move_eight.Goals as goal

pub loop-c-preserved : goal.loop-c-preserved
loop-c-preserved c = (search rules, times_more _ _ _ c.loop-c.invariant.1 (rw (to_z-of_z {w = w16} (record { sfits = c.to-1.given }))))

pub loop-c-init : goal.loop-c-init
loop-c-init c = search (rules, loops)

pub returns : goal.returns
returns c = search (rules, loops)
