-- `residual16::residual_dc` meets its contract.
use Rattle.std.proofs.Common.{◌≡◌, get_or, ℤ, pos, arith, lit<, lit≤, w16, w64, SFits}
use mir.ValLaws.{to_z-of_z}
use Rattle.whole.specs.Within.{Within}
use Rattle.whole.proofs.Signed.{rd}
use Rattle.whole.proofs.Within.{back, within_le, within_sfits}
use Rattle.blocks.specs.Inner.{dc_value}
use Rattle.residual16.proofs.Numbers.{short_within, dc_short}
use Rattle.residual16.proofs.residual_dc.Goals as goal
use Rattle.residual16.proofs.residual_dc.Goals.{After-dc_value-v, After-x-1}

-- the coefficient as it is read
module _ (c : After-x-1) where
  abbrev x : ℤ
  x = get_or c.args.z.now 0 (pos 0)

  short : SFits w16 x
  short = record { sfits = c.x-1.given }

  within : Within 32768 x
  within = short_within x short

  plain : rd w16 x ≡ x
  plain = to_z-of_z w16 x short

  wide : rd w64 x ≡ x
  wide = back w64 (lit< tt) within

module _ (c : After-dc_value-v) where
  abbrev v : ℤ
  v = c.dc_value-v.result

  v_is : v ≡ dc_value c.args.n (x c.before)
  v_is = rw (plain c.before, wide c.before) at c.dc_value-v.ensures

  v_within : Within 32767 v
  v_within = rw v_is (dc_short c.args.n (x c.before) (omega (arith, c.requires.0)) c.requires.1 (within c.before))

  v_wide : rd w64 v ≡ v
  v_wide = back w64 (lit< tt) v_within

  v_plain : rd w16 v ≡ v
  v_plain = back w16 (lit< tt) v_within

pub returns : goal.returns
returns c =
    rw (c.area.ensures.0, v_wide c.before.before.before, v_plain c.before.before.before, v_is c.before.before.before) at c.flat.ensures

pub overflow_cast-x : goal.overflow_cast-x
overflow_cast-x c = rw (plain c) (within_sfits {m = 32768} (lit< tt) (within c))

pub dc_value-v-requires : goal.dc_value-v-requires
dc_value-v-requires c = rw (plain c, wide c) (omega (arith, c.requires.0), c.requires.1, within_le (lit≤ tt) (within c))

pub overflow_cast-v : goal.overflow_cast-v
overflow_cast-v c = rw (v_wide c.before.before) (within_sfits {m = 32767} (lit< tt) (v_within c.before.before))

pub flat-requires : goal.flat-requires
flat-requires c = c.area.ensures.1
