use mathlib.Core.Path.{◌≡◌, refl, sym, ap, ◌∙◌}
use Prim.Native.Nat.{ℕ, ◌+◌, ◌*◌, ◌<◌}
use native.Mathlib.Omega.{arith}
use lib.IntN.{pos, nat_abs}
use lib.ListN.{get_or}
use mir.Syntax.{w64}
use mir.ValLaws.{to_z-of_z}
use Rattle.report.specs.Classes.{one, itself}
use Rattle.report.specs.Inner.{IsClass, Room}
use Rattle.report.proofs.Notes.{note_none, note_token, note_join, zeros_counted, zeros_summed, room_after}
use Rattle.report.proofs.count.count_eight.Goals as goal
use Rattle.report.proofs.count.count_eight.Goals.{After-class_of}

-- eight zeros
pub overflow_add-counts : goal.overflow_add-counts
overflow_add-counts c =
    record { fits = omega (arith, c.requires.3.few (c.args.size * 11) (omega (arith, c.requires.0))) }

pub returns-then-not-any_live : goal.returns-then-not-any_live
returns-then-not-any_live c =
    let a = c.args in
    let z = sym c.any_live.ensures ∙ c.if-not-any_live.true in
    (zeros_counted a.size a.start 8 a.tokens.now z a.counts.now, zeros_summed a.size a.start 8 a.tokens.now z a.sums.now)

pub loop-i-init : goal.loop-i-init
loop-i-init c =
    let a = c.args in
    let e : a.start + 0 ≡ a.start = omega arith in
    (omega arith, rw e (note_none one a.size a.tokens.now a.start a.counts.now), rw e (note_none itself a.size a.tokens.now a.start a.sums.now))

-- one token: its magnitude, its class, and room for it
module _ (c : After-class_of) where
  abbrev i : ℕ
  i = c.loop-i.i

  seen : c.magnitude-m.result ≡ nat_abs (get_or c.args.tokens.now (c.args.start + i) (pos 0))
  seen = c.magnitude-m.ensures ∙ ap nat_abs (to_z-of_z w64 (get_or c.args.tokens.now (c.args.start + i) (pos 0)) (record { sfits = c.magnitude-arg-1.given }))

  class_is : IsClass (nat_abs (get_or c.args.tokens.now (c.args.start + i) (pos 0))) c.class_of.result
  class_is = rw seen at c.class_of.ensures

  place : c.args.size * 11 + c.class_of.result < 44
  place = omega (arith, c.requires.0, class_is.known)

  more : Room 1 c.loop-i.counts c.loop-i.sums
  more =
      let a = c.args in
      room_after a.size a.start i a.tokens.now c.requires.2 (omega (arith, c.requires.1)) (omega arith) c.requires.3 c.loop-i.invariant.1 c.loop-i.invariant.2

pub overflow_add-counts-in-loop-i : goal.overflow_add-counts-in-loop-i
overflow_add-counts-in-loop-i c =
    record { fits = omega (arith, (more c.before.before).few (c.args.size * 11 + c.class_of.result) (place c.before.before)) }

pub overflow_add-sums : goal.overflow_add-sums
overflow_add-sums c =
    record {
      fits = omega (
        arith,
        seen c.before.before.before.before,
        c.requires.2.codeables (c.args.start + i c.before.before.before.before) (omega (arith, c.requires.1)),
        (more c.before.before.before.before).small (c.args.size * 11 + c.class_of.result) (place c.before.before.before.before),
      );
    }

pub loop-i-preserved : goal.loop-i-preserved
loop-i-preserved c =
    let a = c.args in
    let n = a.start + i c.before.before.before.before in
    let e : a.start + (i c.before.before.before.before + 1) ≡ n + 1 = omega arith in (
      omega arith,
      rw e (note_join one a.size a.tokens.now c.loop-i.invariant.1 (note_token one a.size a.tokens.now c.class_of.result 1 n c.loop-i.counts (class_is c.before.before.before.before) refl)),
      rw e (note_join itself a.size a.tokens.now c.loop-i.invariant.2 (note_token itself a.size a.tokens.now c.class_of.result c.magnitude-m.result n c.loop-i.sums (class_is c.before.before.before.before) (seen c.before.before.before.before))),
    )

pub returns : goal.returns
returns c =
    let e : c.loop-i.i ≡ 8 = omega arith in
    (rw e at c.loop-i.invariant.1, rw e at c.loop-i.invariant.2)
