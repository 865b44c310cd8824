use mathlib.Core.Path.{sym, ◌∙◌}
use native.Mathlib.Omega.{arith}
use Rattle.blocks.specs.Kind.{pass_of}
use Rattle.row_pass.proofs.Turn.{Job, rows_job, row_none, turn_safe, row_next, row_skip, row_done}
use Rattle.row_pass.proofs.rows.Given.{Over}
use Rattle.row_pass.proofs.rows.Goals as goal
use Rattle.row_pass.proofs.rows.Goals.{Start, else-is_set, then-is_set}

-- all rows of the block
job : (g : Over) (c : Start g) → Job (pass_of c.args.transform) g.row.N c.args.block.now
job g c = rows_job _ g.row.N _ c.requires.0 c.requires.1 c.requires.2 c.requires.3 c.requires.4

pub side-n0-requires : goal.side-n0-requires
side-n0-requires g c = (c.requires.0, c.requires.1)

pub row-count-requires : goal.row-count-requires
row-count-requires g c =
    let turn = c.loop-i.invariant in
    let hi = rw c.side-n0.ensures.0 at c.loop-i-test.true in (
      c.requires.0,
      c.requires.1,
      c.requires.2,
      hi,
      rw turn.long c.requires.3,
      turn_safe (job g c.before.before.before.before.before.before.before) turn hi,
      turn.clear,
      omega (arith, turn.few, hi),
      c.requires.5,
    )

pub loop-i-preserved : goal.loop-i-preserved
loop-i-preserved g c =
    let j = job g c.before.before.before.before.before in
    let hi = rw c.side-n0.ensures.0 at c.loop-i-test.true in
    elim c.if-is_set.branch [
      | then-is_set w ↦ rw (w.block-is, w.t-is, w.count-is)
          (row_next j c.loop-i.invariant hi (sym c.is_set.ensures ∙ w.if-is_set.true) w.row-count.ensures.0 w.row-count.ensures.1 w.row-count.ensures.2)
      | else-is_set w ↦ rw (w.block-is, w.t-is, w.count-is) (row_skip j c.loop-i.invariant hi (sym c.is_set.ensures ∙ w.if-is_set.false))
    ]

pub returns : goal.returns
returns g c = row_done c.loop-i.invariant (rw c.side-n0.ensures.0 at c.loop-i-test.false)

pub loop-i-init : goal.loop-i-init
loop-i-init g c = row_none _ g.row.N _ _

pub is_set-requires : goal.is_set-requires
is_set-requires g c = omega (arith, c.side-n0.ensures.1)

pub shape_of-block : goal.shape_of-block
shape_of-block g c = c.loop-i.invariant.long
