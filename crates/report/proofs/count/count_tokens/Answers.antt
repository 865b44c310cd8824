use mathlib.Core.Path.{◌≡◌}
use Prim.Native.Nat.{◌+◌, ◌*◌, ◌/◌}
use native.Mathlib.Omega.{arith}
use lib.ListN.{length}
use Rattle.report.specs.Classes.{one, itself}
use Rattle.report.proofs.Notes.{note_none, note_join, room_after, area_eights}
use Rattle.report.proofs.count.count_tokens.Goals as goal
use Rattle.report.proofs.count.count_tokens.Goals.{Start}

pub loop-i-init : goal.loop-i-init
loop-i-init c =
    let a = c.args in
    (omega arith, note_none one a.size a.tokens.now 0 a.counts.now, note_none itself a.size a.tokens.now 0 a.sums.now)

-- the strips are the whole block
whole : (s : Start) → length s.args.tokens.now / 8 * 8 ≡ length s.args.tokens.now
whole s = rw s.requires.1 (area_eights s.args.size s.requires.0)

pub count_eight-requires : goal.count_eight-requires
count_eight-requires c =
    let a = c.args in
    let e : c.loop-i.i * 8 ≡ 0 + c.loop-i.i * 8 = omega arith in (
      c.requires.0,
      omega (arith, whole c.before.before.before.before),
      c.requires.2,
      room_after a.size 0 (c.loop-i.i * 8) a.tokens.now c.requires.2 (omega (arith, whole c.before.before.before.before)) (omega (arith, whole c.before.before.before.before)) c.requires.3 (rw e at c.loop-i.invariant.1) (rw e at c.loop-i.invariant.2),
    )

pub loop-i-preserved : goal.loop-i-preserved
loop-i-preserved c =
    let a = c.args in
    let e : (c.loop-i.i + 1) * 8 ≡ c.loop-i.i * 8 + 8 = omega arith in (
      omega arith,
      rw e (note_join one a.size a.tokens.now c.loop-i.invariant.1 c.count_eight.ensures.0),
      rw e (note_join itself a.size a.tokens.now c.loop-i.invariant.2 c.count_eight.ensures.1),
    )

pub returns : goal.returns
returns c =
    let e : c.loop-i.i * 8 ≡ length c.args.tokens.now = omega (arith, whole c.before.before) in
    (rw e at c.loop-i.invariant.1, rw e at c.loop-i.invariant.2)
