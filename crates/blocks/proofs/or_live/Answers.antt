use mathlib.Core.Path.{◌≡◌, sym, ◌∙◌}
use Prim.Native.Nat.{◌+◌}
use native.Mathlib.Omega.{arith}
use lib.IntN.{pos}
use lib.ListN.{get_or}
use mir.Syntax.{w64}
use mir.Facts.{to_z-of_z}
use mir.Val.{SFits, of_z}
use Rattle.blocks.proofs.Near.{no_bits, bits_of_none}
use Rattle.blocks.proofs.Live.{counted, or_live_none, or_live_more}
use Rattle.blocks.proofs.or_live.Goals as goal

pub loop-k-preserved : goal.loop-k-preserved
loop-k-preserved c =
    let a = c.args in
    let z = get_or a.s.now (a.start + c.loop-k.k) (pos 0) in
    let f : SFits w64 z = record { sfits = c.cast_unsigned-arg-1.given } in
    let q : c.cast_unsigned-all.result ≡ of_z w64 z = rw (to_z-of_z f) at c.cast_unsigned-all.ensures in
    (omega arith, or_live_more a.start a.s.now c.loop-k.k c.loop-k.all c.cast_unsigned-all.result (λ h. no_bits z f (sym q ∙ h)) (λ h. q ∙ bits_of_none z h) c.loop-k.invariant.1)

pub returns : goal.returns
returns c =
    let e : c.args.n ≡ c.loop-k.k = omega arith in
    rw e (counted c.loop-k.all ∙ c.loop-k.invariant.1)

pub loop-k-init : goal.loop-k-init
loop-k-init c = (omega arith, or_live_none _ _)
