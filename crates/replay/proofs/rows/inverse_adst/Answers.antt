use native.Mathlib.Omega.{arith}
use Rattle.replay.proofs.Ready.{adst_ready}
use Rattle.replay.proofs.rows.inverse_adst.Goals as goal

pub inverse_adst-requires : goal.inverse_adst-requires
inverse_adst-requires c =
    (omega arith, omega arith, adst_ready _ (omega arith) (omega arith) _ (c.all_near.ensures c.if-all_near.true))
