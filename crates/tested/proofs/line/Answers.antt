-- `tested::line` meets its contract: one invariant over the place in the list. The loop does not know the kind, so it says this of every kind whose steps these are.
use mathlib.Core.Path.{◌≡◌, ap, subst, sym}
use mathlib.Core.Bool.{true}
use Prim.Native.Nat.{ℕ, ◌≤◌, ◌<◌, ◌^◌}
use native.Mathlib.Omega.{arith}
use lib.ListN.{length}
use Rattle.std.specs.Prelude.{is_ok}
use Rattle.narrow.specs.Kept.{shorts}
use Rattle.tested.specs.Line.{pass_of, steps_of, Line}
use Rattle.tested.specs.declared.Step.TheVariants.{Reverse}
use Rattle.tested.proofs.Answers.{left, gone, stayed}
use Rattle.tested.proofs.Lists.{at_most, entry, as_long}
use Rattle.tested.proofs.Going.{going_begin, going_room, going_next, going_stop, going_end}
use Rattle.tested.proofs.line.Goals as goal

pub loop-step-init : goal.loop-step-init
loop-step-init c = λ k h _. going_begin k c.args.n c.args.t.now h c.requires.2 c.requires.3

pub apply-requires : goal.apply-requires
apply-requires c =
    let h = c.requires.1 in
    let m = at_most c.args.kind c.args.n h in
    let g = going_room c.args.kind c.args.n h (c.loop-step.invariant c.args.kind h c.requires.0) in
    (m.0, m.1, (entry c.requires.0 c.loop-step.step-index c.loop-step-test.true Reverse).1, omega (arith, m.2, g.0), g.1)

pub returns-in_err-apply : goal.returns-in_err-apply
returns-in_err-apply c =
    let h = c.requires.1 in
    let i = c.loop-step.step-index in
    let l : i < length (steps_of (pass_of c.args.kind) c.args.n) = omega (arith, as_long c.requires.0, c.loop-step-test.true) in
    rw (gone c.from_residual.result c.from_residual.ensures.0)
    (going_stop c.args.kind c.args.n h (c.loop-step.invariant c.args.kind h c.requires.0) l (entry c.requires.0 i c.loop-step-test.true Reverse).0 c.apply.ensures (left c.in_err-apply.was))

pub loop-step-preserved : goal.loop-step-preserved
loop-step-preserved c =
    let i = c.loop-step.step-index in
    λ k h q.
    let l : i < length (steps_of (pass_of k) c.args.n) = omega (arith, as_long q, c.loop-step-test.true) in
    going_next k c.args.n h (c.loop-step.invariant k h q) l (entry q i c.loop-step-test.true Reverse).0 c.apply.ensures (stayed c.in_ok-apply.was)

pub returns : goal.returns
returns c =
    going_end _ c.args.n (c.loop-step.invariant c.args.kind c.requires.1 c.requires.0) (omega (arith, as_long c.requires.0, c.loop-step-test.false))

pub line4-requires : goal.line4-requires
line4-requires c = subst (λ (m : ℕ). (m ≤ length c.args.t.now) × (shorts m c.args.t.now ≡ true)) (ap (λ (m : ℕ). 2 ^ m) c.if-n-eq2.true) (c.requires.2, c.requires.3)

pub returns-then-n-eq2 : goal.returns-then-n-eq2
returns-then-n-eq2 c = subst (λ (m : ℕ). Line (pass_of c.args.kind) m c.args.t.now (is_ok c.line4.result) c.line4.new.t) (sym c.if-n-eq2.true) c.line4.ensures
