-- `narrow_lines::from_strips` meets its contract: after i rows and q turns more, the numbers below n0 i + 8 q stand in their places.
use mathlib.Core.Path.{◌≡◌}
use Prim.Native.Nat.{◌+◌, ◌*◌, ◌/◌, ◌≤◌}
use native.Mathlib.Nat.{mul-zero, mul-add, mul-one}
use native.Mathlib.Omega.{arith}
use Rattle.whole.proofs.Lists.{fill_none}
use Rattle.narrow_lines.proofs.Strips.{all_eights}
use Rattle.narrow_lines.proofs.Orders.{octet_lt, back_next}
use Rattle.narrow_lines.proofs.from_strips.Goals as goal
use Rattle.narrow_lines.proofs.from_strips.Goals.{After-move_eight-arg-1}

pub loop-i-init : goal.loop-i-init
loop-i-init c = (omega arith, rw (mul-zero c.side-n0.result) (fill_none _ _))

pub loop-q-init : goal.loop-q-init
loop-q-init c = (omega arith, λ u e. let f : c.side-n0.result * c.loop-i.i + 8 * 0 ≡ c.side-n0.result * c.loop-i.i = omega arith in rw f e)

-- the places of a turn exist
places : (c : After-move_eight-arg-1) → let n0 = c.side-n0.result in
    let i = c.loop-i.i in
    let q = c.loop-q.q in
    (8 * (n0 * q + i) + 8 ≤ 1024) × (n0 * i + 8 * q + 8 ≤ 1024)
places c =
    octet_lt c.side-n0.result c.loop-q.q c.loop-i.i c.side-n0.ensures.1 (omega arith) (omega arith)

pub loop-q-preserved : goal.loop-q-preserved
loop-q-preserved c =
    (omega arith, λ u e. back_next c.side-n0.result c.loop-q.q c.loop-i.i (omega arith) (omega arith) u c.args.z.now (c.loop-q.invariant.1 u e) c.move_eight.ensures)

pub loop-i-preserved : goal.loop-i-preserved
loop-i-preserved c =
    let n0 = c.side-n0.result in
    let m : 8 * (n0 / 8) ≡ n0 = rw c.side-n0.ensures.0 (all_eights c.args.n c.requires.0 c.requires.1) in
    let q : c.loop-q.q ≡ n0 / 8 = omega arith in
    let f : n0 * c.loop-i.i + 8 * c.loop-q.q ≡ n0 * (c.loop-i.i + 1) = omega (arith, mul-add n0 c.loop-i.i 1, mul-one n0, m, q) in
    (omega arith, rw f at (c.loop-q.invariant.1 c.args.s.now c.loop-i.invariant.1))

pub returns : goal.returns
returns c =
    let i : c.loop-i.i ≡ c.side-n0.result = omega arith in
    rw c.side-n0.ensures.0 at (rw i at c.loop-i.invariant.1)

pub overflow_mul-n0 : goal.overflow_mul-n0
overflow_mul-n0 c = omega (arith, (places c).1)

pub overflow_mul-q : goal.overflow_mul-q
overflow_mul-q c = omega (arith, (places c).1)

pub overflow_add-n0 : goal.overflow_add-n0
overflow_add-n0 c = omega (arith, (places c).1)

pub overflow_mul-n0-in-loop-q : goal.overflow_mul-n0-in-loop-q
overflow_mul-n0-in-loop-q c = omega (arith, (places c).0)

pub overflow_add-n0-in-loop-q : goal.overflow_add-n0-in-loop-q
overflow_add-n0-in-loop-q c = omega (arith, (places c).0)

pub overflow_mul-n0-in-loop-q-2 : goal.overflow_mul-n0-in-loop-q-2
overflow_mul-n0-in-loop-q-2 c = omega (arith, (places c).0)

pub move_eight-requires : goal.move_eight-requires
move_eight-requires c = ((places c).1, (places c).0)
