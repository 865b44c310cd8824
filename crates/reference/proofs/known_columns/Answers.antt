use mathlib.Core.Bool.{not}
use lib.Dec.{eqb}
use Prim.Native.Nat.{◌^◌}
use native.Mathlib.Omega.{arith}
use Rattle.blocks.specs.Block.{columns}
use Rattle.blocks.specs.Inverse.{apply, column_pass, rounding}
use Rattle.blocks.specs.Kind.{pass_of}
use Rattle.blocks.proofs.Passes.{Valid, column_valid, valid_sized, column_wht}
use Rattle.blocks.proofs.Turns.{Job, columns_job, turn_none, turn_inside, turn_safe, turn_grown, turn_next, turn_done}
use Rattle.reference.proofs.known_columns.Given.{Over}
use Rattle.reference.proofs.known_columns.Goals as goal
use Rattle.reference.proofs.known_columns.Goals.{After-column_transform-transform}

-- the pass by the type
valid : (g : Over) (c : After-column_transform-transform g) → Valid 0 (pass_of c.column_transform-transform.result) c.args.n
valid g c = rw c.column_transform-transform.ensures (column_valid c.args.n c.args.tx_type (not (eqb g.row.LOSSLESS 0)) c.requires.0)

-- all columns of the block
job : (g : Over) (c : After-column_transform-transform g)
    → Job (pass_of c.column_transform-transform.result) c.args.n c.side-n0.result (rounding c.args.n (not (eqb g.row.LOSSLESS 0))) (λ j. j) c.side-n0.result c.args.block.now
    (columns (apply (column_pass c.args.tx_type (not (eqb g.row.LOSSLESS 0))) c.args.n) (rounding c.args.n (not (eqb g.row.LOSSLESS 0))) (2 ^ c.args.n) c.args.block.now)
job g c =
    rw (c.side-n0.ensures.0, c.column_transform-transform.ensures)
    (columns_job (column_pass c.args.tx_type (not (eqb g.row.LOSSLESS 0))) c.args.n (rounding c.args.n (not (eqb g.row.LOSSLESS 0))) c.args.block.now c.requires.0.least c.requires.0.most (column_valid c.args.n c.args.tx_type (not (eqb g.row.LOSSLESS 0)) c.requires.0) c.requires.1 c.requires.2)

pub load-requires : goal.load-requires
load-requires g c =
    ((job g c.before.before.before).short, turn_inside (job g c.before.before.before) c.loop-j.invariant c.loop-j-test.true)

pub apply_1d-requires : goal.apply_1d-requires
apply_1d-requires g c =
    (rw c.column_transform-transform.ensures (column_wht c.args.tx_type (not (eqb g.row.LOSSLESS 0))), valid_sized 0 _ _ (omega arith) (valid g c.before.before.before.before.before), turn_safe (job g c.before.before.before.before.before) c.loop-j.invariant c.loop-j-test.true c.load.ensures)

pub store_column-requires : goal.store_column-requires
store_column-requires g c =
    let e = c.side-n0.ensures.0 in (
      c.requires.0.least,
      c.requires.0.most,
      rw e at (turn_inside (job g c.before.before.before.before.before.before.before.before) c.loop-j.invariant c.loop-j-test.true),
      rw e at (turn_grown (job g c.before.before.before.before.before.before.before.before) c.loop-j.invariant c.loop-j-test.true c.load.ensures c.apply_1d.ensures),
    )

pub loop-j-preserved : goal.loop-j-preserved
loop-j-preserved g c =
    let e = c.side-n0.ensures.0 in
    turn_next (job g c.before.before.before.before.before.before.before.before.before.before) c.loop-j.invariant c.loop-j-test.true c.load.ensures c.apply_1d.ensures ((rw (← e) at c.store_column.ensures))

pub returns : goal.returns
returns g c = turn_done (job g c.before.before) c.loop-j.invariant c.loop-j-test.false

pub side-n0-requires : goal.side-n0-requires
side-n0-requires g c = (c.requires.0.least, c.requires.0.most)

pub loop-j-init : goal.loop-j-init
loop-j-init g c = turn_none _ _ _ _ _ _ _

pub shape_of-block : goal.shape_of-block
shape_of-block g c = c.loop-j.invariant.long
