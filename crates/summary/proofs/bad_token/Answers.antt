use mathlib.Core.Path.{◌≡◌, ◌∙◌}
use native.Mathlib.Omega.{arith}
use lib.IntN.{pos}
use mir.Syntax.{w64}
use mir.ValLaws.{to_z-of_z}
use Rattle.whole.proofs.Signed.{rd, rd_ok}
use Rattle.answers.specs.Limits.{codeable}
use Rattle.answers.proofs.Passed.{codeable_most}
use Rattle.summary.proofs.bad_token.Goals as goal
use Rattle.summary.proofs.bad_token.Goals.{After-max_codeable_coef-most}

-- the limit
limit : (c : After-max_codeable_coef-most) → rd w64 c.max_codeable_coef-most.result ≡ pos (codeable c.args.bit_depth)
limit c = rd_ok w64 {z = c.max_codeable_coef-most.result} c.max_codeable_coef-most.type_inv ∙ c.max_codeable_coef-most.ensures

pub returns : goal.returns
returns c =
    rw (limit c.before, c.magnitude.ensures, to_z-of_z w64 c.args.token c.ranges.token)

pub overflow_cast-most : goal.overflow_cast-most
overflow_cast-most c = rw (limit c) (tt, record { fits = omega (arith, codeable_most c.args.bit_depth) })
