-- `narrow_lines::rounded` meets its contract.
use mathlib.Core.Path.{◌≡◌, ◌∙◌}
use native.Mathlib.Omega.{arith}
use lib.Dec.{lit<, lit≤}
use lib.IntN.{pos, ◌+ℤ◌}
use lib.Signed.{shr_z}
use Prim.Native.Nat.{ℕ, ◌≤◌}
use mir.Syntax.{w16}
use mir.Val.{SFits}
use mir.ValLaws.{to_z-of_z}
use Rattle.whole.proofs.Within.{within_add, within_lit, within_sfits, sfits_shr}
use Rattle.narrow_lines.proofs.Rounding.{shifted, round_5, round_6}
use Rattle.narrow_lines.proofs.rounded.Goals as goal
use Rattle.narrow_lines.proofs.rounded.Goals.{Start}

-- the sum in between
sum_fits : (s : Start) (m : ℕ) → 16 ≤ m → SFits w16 (shr_z s.args.x m +ℤ pos 1)
sum_fits s m h = within_sfits {m = 2049} (lit< tt) (within_add (shifted s.args.x s.ranges.x m h) (within_lit 1 (pos 1) tt))

pub returns-then-shift-eq5 : goal.returns-then-shift-eq5
returns-then-shift-eq5 c =
    rw (c.if-shift-eq5.true, to_z-of_z w16 c.args.x c.ranges.x, to_z-of_z w16 _ (sfits_shr 16 c.ranges.x), to_z-of_z w16 _ (sum_fits c.before 16 (lit≤ tt)))
    (to_z-of_z w16 _ (sfits_shr 2 (sum_fits c.before 16 (lit≤ tt))) ∙ round_5 c.args.x)

pub returns : goal.returns
returns c =
    let e : c.args.«shift» ≡ 6 = omega (arith, c.if-shift-eq5.false, c.requires.0, c.requires.1) in
    rw (e, to_z-of_z w16 c.args.x c.ranges.x, to_z-of_z w16 _ (sfits_shr 32 c.ranges.x), to_z-of_z w16 _ (sum_fits c.before 32 (lit≤ tt)))
    (to_z-of_z w16 _ (sfits_shr 2 (sum_fits c.before 32 (lit≤ tt))) ∙ round_6 c.args.x)

pub overflow_add-result : goal.overflow_add-result
overflow_add-result c = rw (to_z-of_z w16 c.args.x c.ranges.x, to_z-of_z w16 _ (sfits_shr 16 c.ranges.x)) (sum_fits c.before 16 (lit≤ tt))

pub overflow_add-result-2 : goal.overflow_add-result-2
overflow_add-result-2 c = rw (to_z-of_z w16 c.args.x c.ranges.x, to_z-of_z w16 _ (sfits_shr 32 c.ranges.x)) (sum_fits c.before 32 (lit≤ tt))
