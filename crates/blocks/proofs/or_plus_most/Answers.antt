use mathlib.Core.Path.{◌≡◌}
use Prim.Native.Nat.{◌+◌, ◌%◌, ◌^◌}
use native.Mathlib.Omega.{arith}
use lib.IntN.{pos}
use lib.ListN.{get_or}
use mir.Syntax.{w64}
use mir.Facts.{to_z-of_z}
use mir.Val.{SFits, of_z}
use Rattle.blocks.proofs.Near.{plus_most, plus_most_more}
use Rattle.blocks.proofs.or_plus_most.Goals as goal

pub loop-k-init : goal.loop-k-init
loop-k-init c = (omega arith, λ h j l. absurd (omega arith))

pub loop-k-preserved : goal.loop-k-preserved
loop-k-preserved c =
    let a = c.args in
    let z = get_or a.s.now (a.start + c.loop-k.k) (pos 0) in
    let m = c.wrapping_add_signed-all.result in
    let f : SFits w64 z = record { sfits = c.wrapping_add_signed-arg-1.given } in
    let q : m ≡ (a.most + of_z w64 z) % 2 ^ 64 = rw (to_z-of_z f) at c.wrapping_add_signed-all.ensures in
    (omega arith, plus_most_more a.s.now a.start a.most c.loop-k.k c.loop-k.all m (λ h. plus_most z a.most f c.requires.1 (rw q at h)) c.loop-k.invariant.1)

pub returns : goal.returns
returns c h k l = c.loop-k.invariant.1 h k (omega arith)
