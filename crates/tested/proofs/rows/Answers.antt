-- `tested::rows` meets its contract.
use mathlib.Core.Path.{◌≡◌, refl, ap, ◌∙◌}
use Prim.Native.Nat.{ℕ, ◌*◌, ◌<◌}
use native.Mathlib.Omega.{arith}
use borrow.Author.Rules.{rules}
use Rattle.answers.specs.Sizes.{side}
use Rattle.blocks.specs.Inverse.{apply}
use Rattle.blocks.proofs.Blocks.{row_to_come, rows_loop}
use Rattle.tested.specs.Line.{pass_of}
use Rattle.tested.proofs.Done.{tells_yes, tells_no, area_fits, row_in, placed_as, Lines, done_none, done_next, done_fails}
use Rattle.tested.proofs.Answers.{left, gone, stayed}
use Rattle.tested.proofs.rows.Goals as goal
use Rattle.tested.proofs.rows.Goals.{In-loop-i}

-- the line is one of the block's
inside : (c : In-loop-i) → c.loop-i.i < side c.args.n
inside c = omega (arith, c.side-n0.ensures.0, c.loop-i-test.true)

pub one-requires : goal.one-requires
one-requires c = (
  c.steps-steps.ensures,
  c.requires.0,
  c.requires.1,
  c.requires.2,
  row_in c.args.n c.loop-i.i c.side-n0.ensures.0 c.requires.0 c.requires.1 c.loop-i-test.true,
)

pub returns-in_err-one : goal.returns-in_err-one
returns-in_err-one c =
    let n = c.args.n in
    let p = pass_of c.args.kind in
    rw (gone c.from_residual.result c.from_residual.ensures.0) (tells_no (λ k. done_fails p n (λ k. k * side n) 1 c.loop-i.invariant.1 (row_to_come (apply p n) (side n) c.args.z.now c.loop-i.i (inside c.before.before.before.before.before))
    (placed_as p n c.loop-i.z (ap (λ (m : ℕ). c.loop-i.i * m) c.side-n0.ensures.0) refl c.one.ensures) (left c.in_err-one.was) (k.each c.loop-i.i (inside c.before.before.before.before.before))))

pub loop-i-preserved : goal.loop-i-preserved
loop-i-preserved c =
    let n = c.args.n in
    let p = pass_of c.args.kind in (
      omega (arith, c.loop-i-test.true),
      done_next p n (λ k. k * side n) 1 c.loop-i.invariant.1 (row_to_come (apply p n) (side n) c.args.z.now c.loop-i.i (inside c.before.before.before.before)) (placed_as p n c.loop-i.z (ap (λ (m : ℕ). c.loop-i.i * m) c.side-n0.ensures.0) refl c.one.ensures) (stayed c.in_ok-one.was),
    )

pub returns : goal.returns
returns c =
    let n = c.args.n in
    let p = pass_of c.args.kind in
    let e : c.loop-i.i ≡ side n = omega (arith, c.side-n0.ensures.0, c.loop-i.invariant.0, c.loop-i-test.false) in
    tells_yes
    (record { each = λ k h. c.loop-i.invariant.1.keep k (omega (arith, e)) })
    (c.loop-i.invariant.1.is ∙ ap (λ (m : ℕ). Lines p n (λ k. k * side n) 1 m c.args.z.now) e ∙ rows_loop (apply p n) (side n) c.args.z.now (area_fits n c.requires.0 c.requires.1 c.requires.3))

pub side-n0-requires : goal.side-n0-requires
side-n0-requires c = (c.requires.0, c.requires.1)

pub loop-i-init : goal.loop-i-init
loop-i-init c = (omega arith, done_none _ _ _ _ _)

pub overflow_mul-i : goal.overflow_mul-i
overflow_mul-i c = let h = row_in c.args.n c.loop-i.i c.side-n0.ensures.0 c.requires.0 c.requires.1 c.loop-i-test.true 0 (omega (arith, inside c.before)) in
    search rules
