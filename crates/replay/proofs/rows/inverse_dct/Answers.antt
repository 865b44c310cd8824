use native.Mathlib.Omega.{arith}
use Rattle.replay.proofs.Ready.{dct_ready}
use Rattle.replay.proofs.rows.inverse_dct.Goals as goal

pub inverse_dct-r-requires : goal.inverse_dct-r-requires
inverse_dct-r-requires c =
    (omega arith, omega arith, dct_ready _ (omega arith) (omega arith) _ (c.all_near.ensures c.if-all_near.true) c.idct_permute.ensures)
