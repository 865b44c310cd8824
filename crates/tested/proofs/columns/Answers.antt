-- `tested::columns` meets its contract.
use mathlib.Core.Path.{◌≡◌, refl, ap, ◌∙◌}
use Prim.Native.Nat.{ℕ, ◌<◌}
use native.Mathlib.Omega.{arith}
use Rattle.answers.specs.Sizes.{side}
use Rattle.blocks.specs.Inverse.{apply}
use Rattle.blocks.proofs.Blocks.{column_to_come, columns_loop}
use Rattle.tested.specs.Line.{pass_of}
use Rattle.tested.proofs.Done.{tells_yes, tells_no, area_fits, column_in, placed_as, Lines, done_none, done_next, done_fails}
use Rattle.tested.proofs.Answers.{left, gone, stayed}
use Rattle.tested.proofs.columns.Goals as goal
use Rattle.tested.proofs.columns.Goals.{In-loop-j}

-- the line is one of the block's
inside : (c : In-loop-j) → c.loop-j.j < side c.args.n
inside c = omega (arith, c.side-n0.ensures.0, c.loop-j-test.true)

pub one-requires : goal.one-requires
one-requires c = (
  c.steps-steps.ensures,
  c.requires.0,
  c.requires.1,
  c.requires.2,
  column_in c.args.n c.loop-j.j c.side-n0.ensures.0 c.requires.0 c.requires.1 c.loop-j-test.true,
)

pub returns-in_err-one : goal.returns-in_err-one
returns-in_err-one c =
    let n = c.args.n in
    let p = pass_of c.args.kind in
    rw (gone c.from_residual.result c.from_residual.ensures.0) (tells_no (λ k. done_fails p n (λ k. k) (side n) c.loop-j.invariant.1 (column_to_come (apply p n) (λ z. z) (side n) c.args.z.now c.loop-j.j (inside c.before.before.before.before.before))
    (placed_as p n c.loop-j.z refl c.side-n0.ensures.0 c.one.ensures) (left c.in_err-one.was) (k.each c.loop-j.j (inside c.before.before.before.before.before))))

pub loop-j-preserved : goal.loop-j-preserved
loop-j-preserved c =
    let n = c.args.n in
    let p = pass_of c.args.kind in (
      omega (arith, c.loop-j-test.true),
      done_next p n (λ k. k) (side n) c.loop-j.invariant.1 (column_to_come (apply p n) (λ z. z) (side n) c.args.z.now c.loop-j.j (inside c.before.before.before.before)) (placed_as p n c.loop-j.z refl c.side-n0.ensures.0 c.one.ensures) (stayed c.in_ok-one.was),
    )

pub returns : goal.returns
returns c =
    let n = c.args.n in
    let p = pass_of c.args.kind in
    let e : c.loop-j.j ≡ side n = omega (arith, c.side-n0.ensures.0, c.loop-j.invariant.0, c.loop-j-test.false) in
    tells_yes
    (record { each = λ k h. c.loop-j.invariant.1.keep k (omega (arith, e)) })
    (c.loop-j.invariant.1.is ∙ ap (λ (m : ℕ). Lines p n (λ k. k) (side n) m c.args.z.now) e ∙ columns_loop (apply p n) (λ z. z) (side n) c.args.z.now (area_fits n c.requires.0 c.requires.1 c.requires.3))

pub side-n0-requires : goal.side-n0-requires
side-n0-requires c = (c.requires.0, c.requires.1)

pub loop-j-init : goal.loop-j-init
loop-j-init c = (omega arith, done_none _ _ _ _ _)
