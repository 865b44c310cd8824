use mathlib.Core.Path.{ap}
use Prim.Native.Nat.{◌+◌, ◌-◌, ◌*◌, ◌<◌}
use native.Mathlib.Omega.{arith}
use borrow.Author.Rules.{rules}
use lib.IntN.{ℤ}
use lib.ListN.{length, set}
use mir.Syntax.{w64}
use Rattle.whole.proofs.Signed.{loc, ◌⊕◌, ◌⊖◌, value}
use Rattle.whole.proofs.Lists.{fill_none, fill_more, fill_done}
use Rattle.fwd_dct.proofs.fold.Goals as goal
use Rattle.fwd_dct.proofs.fold.Goals.{In-loop-i}

-- the two places of a turn
first : (c : In-loop-i) → let a = c.args in a.start + c.loop-i.i * a.step < length a.s.now
first c = c.requires.1 c.loop-i.i (omega arith)

pub loop-i-init : goal.loop-i-init
loop-i-init c = (fill_none _ _, fill_none _ _)

pub loop-i-preserved : goal.loop-i-preserved
loop-i-preserved c =
    let p = c.requires.2 in
    let i = c.loop-i.i in
    let a = p i (omega arith) in
    let b = p (2 * c.args.half - 1 - i) (omega arith) in
    let l = c.loop-i in (
      fill_more _ _ i l.invariant.0 (ap (λ (z : ℤ). set l.sums i z) (value w64 (loc a ⊕ loc b) tt)),
      fill_more _ _ i l.invariant.1 (ap (λ (z : ℤ). set l.differences i z) (value w64 (loc a ⊖ loc b) tt)),
    )

pub returns : goal.returns
returns c =
    let l = c.loop-i in
    record { added = fill_done _ _ _ _ (search rules) (search rules) l.invariant.0; taken = fill_done _ _ _ _ (search rules) (search rules) l.invariant.1 }
