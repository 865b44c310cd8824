-- `tested::products` meets its contract.
use mathlib.Core.Bool.{true}
use mir.Facts.{to_z-of_z}
use native.Mathlib.Omega.{arith}
use Rattle.adst.specs.Inner.{arrays}
use Rattle.narrow.proofs.Angles.{does_S}
use Rattle.tested.proofs.Entries.{angle_is, cos_rd, sin_rd, may_turn}
use Rattle.tested.proofs.products.Goals as goal

pub fsb16-requires : goal.fsb16-requires
fsb16-requires c =
    let p = c.requires in
    (p.0, p.1, may_turn c.cos_sin-cos.ensures (omega arith) (omega arith))

pub returns : goal.returns
returns c =
    let h = rw (to_z-of_z c.ranges.angle) at c.cos_sin-cos.ensures in
    does_S (angle_is h) c.args.a c.args.b true (arrays c.args.t.now c.args.s.now) (rw (cos_rd h, sin_rd h) at c.fsb16.ensures.made)
