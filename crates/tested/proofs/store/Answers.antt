use mir.Syntax.{w16}
use mir.Facts.{to_z-of_z}
use Prim.Native.Nat.{◌<◌, ◌+◌, ◌*◌}
use native.Mathlib.Omega.{arith}
use borrow.Author.Rules.{rules}
use Rattle.whole.proofs.Loops.{loops, times_more}
use Rattle.blocks.specs.Inner.{set_line}
use Rattle.tested.proofs.store.Goals as goal
use Rattle.tested.proofs.store.Goals.{In-loop-k}

-- the place of a turn is within the work
below : (c : In-loop-k)
    → c.args.start + c.loop-k.k * c.args.step < 1024
below c = c.requires.1 c.loop-k.k c.loop-k-test.true

pub loop-k-preserved : goal.loop-k-preserved
loop-k-preserved c = (search rules, times_more _ _ _ c.loop-k.invariant.1 (rw (to_z-of_z {w = w16} (record { sfits = c.s-1.given }))))

pub returns : goal.returns
unfolding set_line
returns c = search (rules, loops)

pub loop-k-init : goal.loop-k-init
loop-k-init c = search (rules, loops)

pub overflow_mul-k : goal.overflow_mul-k
overflow_mul-k c = omega (arith, below c.before)

pub overflow_add-start : goal.overflow_add-start
overflow_add-start c = omega (arith, below c.before)

pub offset_bounds-s-start : goal.offset_bounds-s-start
offset_bounds-s-start c = omega (arith, below c.before)

pub bounds-s-start : goal.bounds-s-start
bounds-s-start c = omega (arith, below c.before)
