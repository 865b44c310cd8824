use mathlib.Core.Path.{ap, ◌∙◌}
use native.Mathlib.Omega.{arith}
use lib.ListN.{length}
use Rattle.whole.proofs.Loops.{times_none, times_more, times_done}
use Rattle.blocks.proofs.Blocks.{columns_loop}
use Rattle.blocks.proofs.Lines.{change_line_length}
use Rattle.wht.specs.Wht.{wht}
use Rattle.fwd_transform.proofs.Wht.{column_fine}
use Rattle.fwd_transform.proofs.wht_columns.Goals as goal

pub loop-j-init : goal.loop-j-init
loop-j-init c = (omega arith, c.requires.0, times_none _ _)

pub wht_line-requires : goal.wht_line-requires
wht_line-requires c =
    let l = c.loop-j in
    (λ k h. omega arith, column_fine _ c.args.block.now (omega arith) (omega arith) c.requires.1 l.j l.block (omega arith) l.invariant.2)

pub loop-j-preserved : goal.loop-j-preserved
loop-j-preserved c =
    let l = c.loop-j in
    let e = c.wht_line.ensures in
    (omega arith, ap length e ∙ change_line_length (wht 0) (λ z. z) l.j 4 4 l.block ∙ l.invariant.1, times_more _ l.j _ l.invariant.2 e)

pub returns : goal.returns
returns c =
    let l = c.loop-j in
    times_done _ l.j 4 _ (omega arith) (omega arith) l.invariant.2 ∙ columns_loop (wht 0) (λ z. z) 4 c.args.block.now (omega arith)
