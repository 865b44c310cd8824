use mir.Syntax.{w16, w64}
use mir.Facts.{to_z-of_z}
use native.Mathlib.Omega.{arith}
use borrow.Author.Rules.{rules}
use lib.IntN.{pos}
use lib.ListN.{get_or}
use Rattle.whole.proofs.Lists.{fill_none, fill_more, fill_done}
use Rattle.idct32.proofs.Scan.{shorts_at}
use Rattle.idct32.proofs.copy.Goals as goal

pub narrowed-requires : goal.narrowed-requires
narrowed-requires c =
    rw (to_z-of_z {w = w64} (record { sfits = c.narrowed-arg-1.given }))
    (shorts_at c.args.count c.args.block.now c.loop-k.k c.requires.2 c.loop-k-test.true)

pub loop-k-preserved : goal.loop-k-preserved
loop-k-preserved c =
    let l = c.loop-k in
    let f = to_z-of_z {w = w64} {z = get_or c.args.block.now l.k (pos 0)} (record { sfits = c.narrowed-arg-1.given }) in
    let g = to_z-of_z {w = w16} {z = c.narrowed.result} (record { sfits = c.narrowed.type_inv }) in
    (search rules, fill_more _ _ _ l.invariant.1 (rw (g, c.narrowed.ensures, f)))

pub returns : goal.returns
returns c = fill_done _ _ _ _ (search rules) (search rules) c.loop-k.invariant.1

pub loop-k-init : goal.loop-k-init
loop-k-init c = (omega arith, fill_none _ _)
