use native.Mathlib.Omega.{arith}
use Rattle.replay.proofs.rows.inverse_wht.Goals as goal

pub inverse_wht-requires : goal.inverse_wht-requires
inverse_wht-requires c =
    let near = c.all_near.ensures c.if-all_near.true in
    (omega arith, (near 0 (omega arith), near 1 (omega arith), near 2 (omega arith), near 3 (omega arith)))
