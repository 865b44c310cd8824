use mir.Syntax.{w64}
use mir.ValLaws.{to_z-of_z}
use Rattle.whole.proofs.Signed.{rd_ok}
use Rattle.summary.proofs.bad_coefficient.Goals as goal

pub returns : goal.returns
returns c =
    rw (c.magnitude.ensures, rd_ok w64 {z = c.coefficient-coef.result} c.coefficient-coef.type_inv, c.coefficient-coef.ensures, to_z-of_z w64 c.args.token c.ranges.token)
