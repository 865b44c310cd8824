use mathlib.Core.Bool.{not}
use lib.Dec.{eqb}
use Prim.Native.Nat.{◌*◌, ◌^◌}
use native.Mathlib.Omega.{arith}
use Rattle.blocks.specs.Block.{rows}
use Rattle.blocks.specs.Inverse.{apply, row_pass}
use Rattle.blocks.specs.Kind.{pass_of}
use Rattle.blocks.proofs.Passes.{Valid, row_valid, valid_sized, row_wht}
use Rattle.blocks.proofs.Turns.{Job, rows_job, turn_none, turn_inside, turn_safe, turn_next, turn_done}
use Rattle.reference.proofs.known_rows.Given.{Over}
use Rattle.reference.proofs.known_rows.Goals as goal
use Rattle.reference.proofs.known_rows.Goals.{After-row_transform-transform}

-- the pass by the type
valid : (g : Over) (c : After-row_transform-transform g) → Valid 2 (pass_of c.row_transform-transform.result) c.args.n
valid g c = rw c.row_transform-transform.ensures (row_valid c.args.n c.args.tx_type (not (eqb g.row.LOSSLESS 0)) c.requires.0)

-- all rows of the block
job : (g : Over) (c : After-row_transform-transform g)
    → Job (pass_of c.row_transform-transform.result) c.args.n c.side-n0.result (λ z. z) (λ i. i * c.side-n0.result) 1 c.args.block.now
    (rows (apply (row_pass c.args.tx_type (not (eqb g.row.LOSSLESS 0))) c.args.n) (2 ^ c.args.n) c.args.block.now)
job g c =
    rw (c.side-n0.ensures.0, c.row_transform-transform.ensures)
    (rows_job (row_pass c.args.tx_type (not (eqb g.row.LOSSLESS 0))) c.args.n c.args.block.now c.requires.0.least c.requires.0.most (row_valid c.args.n c.args.tx_type (not (eqb g.row.LOSSLESS 0)) c.requires.0) c.requires.1 c.requires.2)

pub overflow_mul-i : goal.overflow_mul-i
overflow_mul-i g c =
    omega (arith, turn_inside (job g c.before.before.before) c.loop-i.invariant c.loop-i-test.true 0 (omega arith))

pub load-requires : goal.load-requires
load-requires g c =
    ((job g c.before.before.before).short, turn_inside (job g c.before.before.before) c.loop-i.invariant c.loop-i-test.true)

pub apply_1d-requires : goal.apply_1d-requires
apply_1d-requires g c =
    (rw c.row_transform-transform.ensures (row_wht c.args.tx_type (not (eqb g.row.LOSSLESS 0))), valid_sized 2 _ _ (omega arith) (valid g c.before.before.before.before.before), turn_safe (job g c.before.before.before.before.before) c.loop-i.invariant c.loop-i-test.true c.load.ensures)

pub overflow_mul-i-in-loop-i : goal.overflow_mul-i-in-loop-i
overflow_mul-i-in-loop-i g c =
    omega (arith, turn_inside (job g c.before.before.before.before.before.before.before.before) c.loop-i.invariant c.loop-i-test.true 0 (omega arith))

pub store-requires : goal.store-requires
store-requires g c =
    ((job g c.before.before.before.before.before.before.before.before).short, turn_inside (job g c.before.before.before.before.before.before.before.before) c.loop-i.invariant c.loop-i-test.true)

pub loop-i-preserved : goal.loop-i-preserved
loop-i-preserved g c =
    turn_next (job g c.before.before.before.before.before.before.before.before.before.before) c.loop-i.invariant c.loop-i-test.true c.load.ensures c.apply_1d.ensures c.store.ensures

pub returns : goal.returns
returns g c = turn_done (job g c.before.before) c.loop-i.invariant c.loop-i-test.false

pub side-n0-requires : goal.side-n0-requires
side-n0-requires g c = (c.requires.0.least, c.requires.0.most)

pub loop-i-init : goal.loop-i-init
loop-i-init g c = turn_none _ _ _ _ _ _ _

pub shape_of-block : goal.shape_of-block
shape_of-block g c = c.loop-i.invariant.long
