use mathlib.Core.Path.{sym, ◌≡◌, ap, ◌∙◌}
use Prim.Native.Nat.{◌*◌, ◌^◌, ◌≤◌}
use native.Mathlib.Omega.{arith}
use lib.IntN.{nat_abs}
use mir.Syntax.{w32, w64}
use mir.ValLaws.{to_z-of_z}
use Rattle.whole.proofs.Signed.{rd, rd_ok}
use Rattle.answers.proofs.Passed.{quantizer}
use Rattle.quant.specs.Token.{dq_denom, rounded, quantize}
use Rattle.quant.proofs.Machine.{number, plain_cast, wide_most}
use Rattle.quant.proofs.quantize.Goals as goal
use Rattle.quant.proofs.quantize.Goals.{After-widened-a}

module _ (g : _) (c : After-widened-a g) where
  coef : rd w64 c.args.coef ≡ c.args.coef
  coef = to_z-of_z w64 c.args.coef c.ranges.coef

  -- the magnitude, doubled at 32 by 32, and its range
  wide : c.widened-a.result ≡ nat_abs c.args.coef * dq_denom c.args.size
  wide = c.widened-a.ensures ∙ rw coef

  wide_le : c.widened-a.result ≤ 2 ^ 32
  wide_le = rw wide (wide_most c.args.size (nat_abs c.args.coef) c.requires.1)

  -- the quantizer
  q : nat_abs (rd w32 c.number-signed.result) ≡ nat_abs c.number-signed.result
  q = ap nat_abs (number c.number-signed.result (rw (sym c.number-signed.ensures) at c.requires.0))

pub overflow_cast-q : goal.overflow_cast-q
overflow_cast-q g c = plain_cast c.number-signed.result (rw (sym c.number-signed.ensures) at c.requires.0)

pub overflow_mul-nearest : goal.overflow_mul-nearest
overflow_mul-nearest g c = record { fits = omega (arith, wide_le g c) }

pub overflow_sub-nearest : goal.overflow_sub-nearest
overflow_sub-nearest g c =
    rw (q g c.before) (omega (arith, c.short.ensures.1, (quantizer c.number-signed.result (rw (sym c.number-signed.ensures) at c.requires.0)).least))

pub overflow_add-nearest : goal.overflow_add-nearest
overflow_add-nearest g c =
    rw (q g c.before) (record { fits = omega (arith, wide_le g c.before, (quantizer c.number-signed.result (rw (sym c.number-signed.ensures) at c.requires.0)).most) })

pub overflow_mul-nearest-2 : goal.overflow_mul-nearest-2
overflow_mul-nearest-2 g c =
    rw (q g c.before) (record { fits = omega (arith, (quantizer c.number-signed.result (rw (sym c.number-signed.ensures) at c.requires.0)).most) })

pub nonzero_div-nearest : goal.nonzero_div-nearest
nonzero_div-nearest g c =
    rw (q g c.before) (omega (arith, (quantizer c.number-signed.result (rw (sym c.number-signed.ensures) at c.requires.0)).least))

pub returns : goal.returns
unfolding quantize rounded
returns g c =
    rw (sym c.number-signed.ensures) (rd_ok w64 {z = c.with_sign.result} c.with_sign.type_inv ∙ c.with_sign.ensures
    ∙ rw (coef g c.before.before.before, c.min.ensures, c.short.ensures.0, q g c.before.before.before, wide g c.before.before.before))
