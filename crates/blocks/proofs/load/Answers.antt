use mir.Syntax.{w64}
use mir.Facts.{to_z-of_z}
use Prim.Native.Nat.{◌<◌, ◌+◌, ◌*◌}
use native.Mathlib.Omega.{arith}
use borrow.Author.Rules.{rules}
use lib.ListN.{length}
use Rattle.whole.proofs.Lists.{fill_none, fill_more, fill_done}
use Rattle.blocks.proofs.load.Goals as goal
use Rattle.blocks.proofs.load.Goals.{In-loop-k}

-- the place of a turn is within the slice
below : (c : In-loop-k)
    → c.args.start + c.loop-k.k * c.args.step < length c.args.s.now
below c = c.requires.1 c.loop-k.k c.loop-k-test.true

pub loop-k-init : goal.loop-k-init
loop-k-init c = (omega arith, fill_none _ _)

pub overflow_mul-t : goal.overflow_mul-t
overflow_mul-t c = omega (arith, below c)

pub overflow_add-t : goal.overflow_add-t
overflow_add-t c = omega (arith, below c)

pub offset_bounds-s-start : goal.offset_bounds-s-start
offset_bounds-s-start c = omega (arith, below c)

pub bounds-s-start : goal.bounds-s-start
bounds-s-start c = omega (arith, below c)

pub loop-k-preserved : goal.loop-k-preserved
loop-k-preserved c =
    (search rules, fill_more _ _ _ c.loop-k.invariant.1 (rw (to_z-of_z {w = w64} (record { sfits = c.t-1.given }))))

pub returns : goal.returns
returns c = fill_done _ _ _ _ (search rules) (search rules) c.loop-k.invariant.1
