use mathlib.Core.Path.{ap, ◌∙◌}
use Prim.Native.Nat.{◌*◌}
use native.Mathlib.Omega.{arith}
use lib.ListN.{length}
use Rattle.whole.proofs.Loops.{times_none, times_more, times_done}
use Rattle.blocks.proofs.Blocks.{rows_loop}
use Rattle.blocks.proofs.Lines.{change_line_length}
use Rattle.wht.specs.Wht.{wht}
use Rattle.fwd_transform.proofs.Wht.{row_fine}
use Rattle.fwd_transform.proofs.wht_rows.Goals as goal

pub loop-i-init : goal.loop-i-init
loop-i-init c = (omega arith, c.requires.0, times_none _ _)

pub wht_line-requires : goal.wht_line-requires
wht_line-requires c =
    let l = c.loop-i in
    (λ k h. omega arith, row_fine _ c.args.block.now (omega arith) (omega arith) c.requires.1 l.i l.block (omega arith) l.invariant.2)

pub loop-i-preserved : goal.loop-i-preserved
loop-i-preserved c =
    let l = c.loop-i in
    let e = c.wht_line.ensures in
    (omega arith, ap length e ∙ change_line_length (wht 0) (λ z. z) (l.i * 4) 1 4 l.block ∙ l.invariant.1, times_more _ l.i _ l.invariant.2 e)

pub returns : goal.returns
returns c =
    let l = c.loop-i in
    times_done _ l.i 4 _ (omega arith) (omega arith) l.invariant.2 ∙ rows_loop (wht 0) 4 c.args.block.now (omega arith)
