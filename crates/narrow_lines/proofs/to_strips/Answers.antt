-- `narrow_lines::to_strips` meets its contract: after q strips and i turns more, the numbers below 8 (n0 q + i) stand in their places.
use mathlib.Core.Path.{◌≡◌, sym, ap, ◌∙◌}
use Prim.Native.Nat.{◌+◌, ◌*◌, ◌/◌, ◌≤◌}
use native.Mathlib.Nat.{mul-zero, mul-add, mul-one, add-zero, mul-le-mul}
use native.Mathlib.Omega.{arith}
use lib.ListN.{length}
use Rattle.whole.proofs.Lists.{fill_none, length_fill}
use Rattle.narrow_lines.proofs.Strips.{all_eights}
use Rattle.narrow_lines.proofs.Orders.{octet_lt, to_next, to_done}
use Rattle.narrow_lines.proofs.to_strips.Goals as goal
use Rattle.narrow_lines.proofs.to_strips.Goals.{After-move_eight-arg-1}

pub loop-q-init : goal.loop-q-init
loop-q-init c = (omega arith, rw (mul-zero c.side-n0.result) (fill_none _ _))

pub loop-i-init : goal.loop-i-init
loop-i-init c = (omega arith, λ u e. rw (add-zero (c.side-n0.result * c.loop-q.q)) e)

-- the places of a turn exist
places : (c : After-move_eight-arg-1) → let n0 = c.side-n0.result in
    let q = c.loop-q.q in
    let i = c.loop-i.i in
    (8 * (n0 * q + i) + 8 ≤ 1024) × (n0 * i + 8 * q + 8 ≤ 1024)
places c =
    octet_lt c.side-n0.result c.loop-q.q c.loop-i.i c.side-n0.ensures.1 (omega arith) (omega arith)

pub loop-i-preserved : goal.loop-i-preserved
loop-i-preserved c =
    (omega arith, λ u e. to_next c.side-n0.result c.loop-q.q c.loop-i.i (omega arith) (omega arith) u c.args.s.now (c.loop-i.invariant.1 u e) c.move_eight.ensures)

pub loop-q-preserved : goal.loop-q-preserved
loop-q-preserved c =
    let n0 = c.side-n0.result in
    let f : n0 * c.loop-q.q + c.loop-i.i ≡ n0 * (c.loop-q.q + 1) = omega (arith, mul-add n0 c.loop-q.q 1, mul-one n0) in
    (omega arith, rw f at (c.loop-i.invariant.1 c.args.z.now c.loop-q.invariant.1))

pub returns : goal.returns
returns c =
    let n0 = c.side-n0.result in
    let e = c.side-n0.ensures.0 in
    let q : c.loop-q.q ≡ n0 / 8 = omega arith in
    let m : n0 ≡ 8 * (n0 / 8) = rw e (sym (all_eights c.args.n c.requires.0 c.requires.1)) in
    let f = rw q at c.loop-q.invariant.1 in (
      ap length c.loop-q.invariant.1 ∙ length_fill _ _ c.args.z.now ∙ c.requires.2,
      rw e at (to_done n0 c.args.s.now c.loop-q.z c.args.z.now m (rw c.requires.2 (mul-le-mul c.side-n0.ensures.1 c.side-n0.ensures.1)) f),
    )

pub overflow_mul-n0 : goal.overflow_mul-n0
overflow_mul-n0 c = omega (arith, (places c).0)

pub overflow_add-n0 : goal.overflow_add-n0
overflow_add-n0 c = omega (arith, (places c).0)

pub overflow_mul-n0-in-loop-i : goal.overflow_mul-n0-in-loop-i
overflow_mul-n0-in-loop-i c = omega (arith, (places c).0)

pub overflow_mul-n0-in-loop-i-2 : goal.overflow_mul-n0-in-loop-i-2
overflow_mul-n0-in-loop-i-2 c = omega (arith, (places c).1)

pub overflow_mul-q : goal.overflow_mul-q
overflow_mul-q c = omega (arith, (places c).1)

pub overflow_add-n0-in-loop-i : goal.overflow_add-n0-in-loop-i
overflow_add-n0-in-loop-i c = omega (arith, (places c).1)

pub move_eight-requires : goal.move_eight-requires
move_eight-requires c = places c
