use mir.Syntax.{w16}
use mir.Facts.{to_z-of_z}
use Prim.Native.Nat.{◌<◌, ◌+◌, ◌*◌}
use native.Mathlib.Omega.{arith}
use borrow.Author.Rules.{rules}
use Rattle.whole.proofs.Lists.{fill_none, fill_more, fill_done}
use Rattle.narrow.proofs.Short.{fits_short}
use Rattle.tested.proofs.Done.{below_more}
use Rattle.tested.proofs.load.Goals as goal
use Rattle.tested.proofs.load.Goals.{In-loop-k}

-- the place of a turn is within the work
below : (c : In-loop-k)
    → c.args.start + c.loop-k.k * c.args.step < 1024
below c = c.requires.1 c.loop-k.k c.loop-k-test.true

pub loop-k-preserved : goal.loop-k-preserved
loop-k-preserved c =
    let l = c.loop-k in (
      search rules,
      fill_more _ _ _ l.invariant.1 (rw (to_z-of_z {w = w16} (record { sfits = c.t-1.given }))),
      below_more l.k l.invariant.2 (fits_short (record { sfits = c.t-1.given })),
    )

pub returns : goal.returns
returns c =
    let l = c.loop-k in
    record { made = fill_done _ _ _ _ (search rules) (search rules) l.invariant.1; told = λ k h. l.invariant.2 k (omega arith) }

pub loop-k-init : goal.loop-k-init
loop-k-init c = (omega arith, fill_none _ _, λ j h. absurd (omega arith))

pub overflow_mul-t : goal.overflow_mul-t
overflow_mul-t c = omega (arith, below c)

pub overflow_add-t : goal.overflow_add-t
overflow_add-t c = omega (arith, below c)

pub offset_bounds-s-start : goal.offset_bounds-s-start
offset_bounds-s-start c = omega (arith, below c)

pub bounds-s-start : goal.bounds-s-start
bounds-s-start c = omega (arith, below c)
