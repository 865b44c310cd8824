-- `add_row` of `Strips` meets its contract.
use mathlib.Core.Path.{◌≡◌, refl, ap, ◌∙◌}
use Prim.Native.Nat.{ℕ, ◌+◌, ◌-◌, ◌*◌, ◌/◌, ◌≤◌, ◌<◌}
use native.Mathlib.Omega.{arith}
use lib.IntN.{pos}
use lib.ListN.{get_or}
use borrow.Author.Rules.{rules}
use Rattle.narrow.specs.Tile.{place}
use Rattle.plane.proofs.Row.{row_none}
use Rattle.plane16.proofs.Ends.{row_join, place_strip, strip_end, strip_most}
use Rattle.plane16.proofs.StripsResiduals.add_row.Goals as goal
use Rattle.plane16.proofs.StripsResiduals.add_row.Goals.{Start}

pub loop-q-init : goal.loop-q-init
loop-q-init c =
    let a = c.args in
    (omega arith, refl, row_none a.top (λ j. get_or a.self.z.now (place a.self.n0 a.i j) (pos 0)) a.at a.samples.now)

pub loop-q-preserved : goal.loop-q-preserved
loop-q-preserved c =
    let a = c.args in
    let q = c.loop-q.q in
    let e : 8 * (q + 1) ≡ 8 * q + 8 = omega arith in (
      omega arith,
      c.add_eight.auto.samples ∙ c.loop-q.invariant.1,
      λ k. rw e
          (row_join a.top (λ j. get_or a.self.z.now (place a.self.n0 a.i j) (pos 0)) (λ j. get_or a.self.z.now (8 * a.self.n0 * q + 8 * a.i + j) (pos 0)) a.at (8 * q) 8
          (λ j h. ap (λ p. get_or a.self.z.now p (pos 0)) (place_strip a.self.n0 a.i q j h)) a.samples.now c.loop-q.samples c.add_eight.new.samples c.loop-q.invariant.2 c.add_eight.ensures k),
    )

pub returns : goal.returns
returns c =
    let a = c.args in
    let m = a.cols / 8 in
    let h : c.loop-q.q ≡ m = omega arith in
    let e : 8 * m + (a.cols - 8 * m) ≡ a.cols = omega arith in
    λ k. rw e at
    (row_join a.top (λ j. get_or a.self.z.now (place a.self.n0 a.i j) (pos 0)) (λ j. get_or a.self.z.now (8 * a.self.n0 * m + 8 * a.i + j) (pos 0)) a.at (8 * m) (a.cols - 8 * m)
    (λ j c. ap (λ p. get_or a.self.z.now p (pos 0)) (place_strip a.self.n0 a.i m j (omega arith))) a.samples.now c.loop-q.samples c.add_rest.new.samples (rw h at c.loop-q.invariant.2) c.add_rest.ensures k)

-- where a strip begins and ends
module _ (s : Start) where
  starts : (q : ℕ) → q ≤ 4 → 8 * s.args.self.n0 * q ≤ 1024
  starts q h = strip_most s.args.self.n0 q s.requires.1.0 h

  ends : (q : ℕ) → q < 4 → 8 * s.args.self.n0 * q + 8 * s.args.i + 8 ≤ 1024
  ends q h = omega (arith, strip_end s.args.self.n0 s.args.i q s.requires.1.1, starts (q + 1) (omega arith))

pub overflow_mul-n0 : goal.overflow_mul-n0
overflow_mul-n0 c = record { fits = omega (arith, c.requires.1.0) }

pub overflow_mul-n0-in-loop-q : goal.overflow_mul-n0-in-loop-q
overflow_mul-n0-in-loop-q c = record { fits = omega (arith, ends c.before.before.before.before c.loop-q.q (omega (arith, c.requires.1.0, c.requires.1.2))) }

pub overflow_mul-i : goal.overflow_mul-i
overflow_mul-i c = record { fits = omega (arith, c.requires.1.0, c.requires.1.1) }

pub overflow_add-n0 : goal.overflow_add-n0
overflow_add-n0 c = record { fits = omega (arith, ends c.before.before.before.before c.loop-q.q (omega (arith, c.requires.1.0, c.requires.1.2))) }

pub add_eight-requires : goal.add_eight-requires
add_eight-requires c = (search rules, ends c.before.before.before.before c.loop-q.q (omega (arith, c.requires.1.0, c.requires.1.2)))

pub overflow_mul-n0-2 : goal.overflow_mul-n0-2
overflow_mul-n0-2 c = record { fits = omega (arith, c.requires.1.0) }

pub overflow_mul-n0-3 : goal.overflow_mul-n0-3
overflow_mul-n0-3 c = record { fits = omega (arith, starts c.before.before.before.before (c.args.cols / 8) (omega (arith, c.requires.1.0, c.requires.1.2))) }

pub overflow_mul-i-2 : goal.overflow_mul-i-2
overflow_mul-i-2 c = record { fits = omega (arith, c.requires.1.0, c.requires.1.1) }

pub overflow_add-n0-2 : goal.overflow_add-n0-2
overflow_add-n0-2 c = record { fits = omega (arith, c.requires.1.0, c.requires.1.1, starts c.before.before.before.before (c.args.cols / 8) (omega (arith, c.requires.1.0, c.requires.1.2))) }

pub add_rest-requires : goal.add_rest-requires
add_rest-requires c = (
  search rules,
  omega (arith, c.requires.1.0, c.requires.1.1, starts c.before.before.before.before (c.args.cols / 8) (omega (arith, c.requires.1.0, c.requires.1.2))),
  λ j h. omega (arith, ends c.before.before.before.before (c.args.cols / 8) (omega (arith, c.requires.1.0, c.requires.1.2))),
)
