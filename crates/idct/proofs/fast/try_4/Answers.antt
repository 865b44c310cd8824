use Rattle.idct.proofs.Answers.{any_tried}
use Rattle.idct.proofs.fast.try_4.Goals as goal

pub returns-then-lossless : goal.returns-then-lossless
returns-then-lossless c =
    rw c.if-lossless.true (any_tried c.args.tx_type c.args.block.now c.try_wht4.ensures)

pub returns : goal.returns
returns c = rw c.if-lossless.false c.try_lossy4.ensures
