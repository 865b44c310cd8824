use Prim.Native.Nat.{◌-◌}
use Rattle.blocks.specs.Kind.{pass_of}
use Rattle.summary.specs.Summary.{is_set}
use Rattle.row_pass.proofs.Turn.{RowTurn}
use Rattle.row_pass.proofs.rows.Given as goal

abbrev pub invariant-loop-i : goal.invariant-loop-i
invariant-loop-i g l = RowTurn (pass_of l.transform) g.row.N (is_set l.summary) l.initial.block l.block l.t l.count l.i

abbrev pub decreases-loop-i : goal.decreases-loop-i
decreases-loop-i g l = l.n0 - l.i
