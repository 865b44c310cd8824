use mathlib.Core.Path.{sym, ap, ◌∙◌}
use native.Mathlib.Omega.{arith}
use lib.IntN.{neg_ℤ}
use mir.Facts.{to_z-of_z}
use Rattle.primitives.proofs.Cosine.{cos_1, cos_2, cos_3, cos_4, cos_is}
use Rattle.primitives.proofs.Out.{out, out_neg}
use Rattle.primitives.proofs.cos64.Goals as goal

pub returns-in-0-to-32 : goal.returns-in-0-to-32
returns-in-0-to-32 c =
    let a = c.modulo128-angle2 in
    let e = cos_is c.args.angle a.result (rw (to_z-of_z c.ranges.angle) at a.ensures.0) in
    let r = c.cos64_lookup.ensures in
    out r.1 (r.0 ∙ sym (e ∙ cos_1 a.result (omega arith)))

pub returns-in-33-to-64 : goal.returns-in-33-to-64
returns-in-33-to-64 c =
    let a = c.modulo128-angle2 in
    let e = cos_is c.args.angle a.result (rw (to_z-of_z c.ranges.angle) at a.ensures.0) in
    let r = c.cos64_lookup-in-33-to-64.ensures in
    out_neg r.1 (ap neg_ℤ r.0 ∙ sym (e ∙ cos_2 a.result (omega arith) (omega arith)))

pub returns-in-65-to-96 : goal.returns-in-65-to-96
returns-in-65-to-96 c =
    let a = c.modulo128-angle2 in
    let e = cos_is c.args.angle a.result (rw (to_z-of_z c.ranges.angle) at a.ensures.0) in
    let r = c.cos64_lookup-in-65-to-96.ensures in
    out_neg r.1 (ap neg_ℤ r.0 ∙ sym (e ∙ cos_3 a.result (omega arith) (omega arith)))

pub returns-in_default : goal.returns-in_default
returns-in_default c =
    let a = c.modulo128-angle2 in
    let e = cos_is c.args.angle a.result (rw (to_z-of_z c.ranges.angle) at a.ensures.0) in
    let r = c.cos64_lookup-in_default.ensures in
    out r.1 (r.0 ∙ sym (e ∙ cos_4 a.result (omega arith)))
