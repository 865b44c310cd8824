use mathlib.Core.Bool.{not}
use lib.Dec.{eqb}
use Prim.Native.Nat.{◌*◌}
use native.Mathlib.Omega.{arith}
use Rattle.blocks.specs.Block.{rows}
use Rattle.blocks.specs.Inner.{Valid}
use Rattle.blocks.specs.Inverse.{apply, row_pass}
use Rattle.blocks.specs.Kind.{pass_of}
use Rattle.blocks.proofs.Passes.{row_valid, valid_sized, row_wht}
use Rattle.blocks.proofs.Turns.{Job, rows_job, turn_none, turn_safe, turn_next, turn_done}
use Rattle.small_passes.proofs.Small.{small}
use Rattle.small_passes.proofs.all_rows.Given.{Over}
use Rattle.small_passes.proofs.all_rows.Goals as goal
use Rattle.small_passes.proofs.all_rows.Goals.{After-row_transform-transform}

valid : (g : Over) (c : After-row_transform-transform g) → Valid 2 (pass_of c.row_transform-transform.result) 2
valid g c = rw c.row_transform-transform.ensures (row_valid 2 c.args.tx_type (not (eqb g.row.LOSSLESS 0)) (small c.args.tx_type (not (eqb g.row.LOSSLESS 0))))

-- all rows of the block
job : (g : Over) (c : After-row_transform-transform g)
    → Job (pass_of c.row_transform-transform.result) 2 4 (λ z. z) (λ i. i * 4) 1 c.args.block.now (rows (apply (row_pass c.args.tx_type (not (eqb g.row.LOSSLESS 0))) 2) 4 c.args.block.now)
job g c =
    rw c.row_transform-transform.ensures
    (rows_job (row_pass c.args.tx_type (not (eqb g.row.LOSSLESS 0))) 2 _ (omega arith) (omega arith) (row_valid 2 c.args.tx_type (not (eqb g.row.LOSSLESS 0)) (small c.args.tx_type (not (eqb g.row.LOSSLESS 0)))) c.requires.0 c.requires.1)

pub line-requires : goal.line-requires
line-requires g c =
    (rw c.row_transform-transform.ensures (row_wht c.args.tx_type (not (eqb g.row.LOSSLESS 0))), valid_sized 2 _ 2 (omega arith) (valid g c.before.before.before.before.before), turn_safe (job g c.before.before.before.before.before) c.loop-i.invariant c.loop-i-test.true c.load.ensures)

pub loop-i-preserved : goal.loop-i-preserved
loop-i-preserved g c =
    turn_next (job g c.before.before.before.before.before.before.before.before.before.before) c.loop-i.invariant c.loop-i-test.true c.load.ensures c.line.ensures c.store.ensures

pub returns : goal.returns
returns g c = turn_done (job g c.before.before) c.loop-i.invariant c.loop-i-test.false

pub loop-i-init : goal.loop-i-init
loop-i-init g c = turn_none _ 2 4 _ _ _ _

pub load-requires : goal.load-requires
load-requires g c = (omega arith, λ k h. omega arith)

pub store-requires : goal.store-requires
store-requires g c = (omega arith, λ k h. omega arith)

pub shape_of-block : goal.shape_of-block
shape_of-block g c = c.loop-i.invariant.long
