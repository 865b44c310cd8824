use native.Mathlib.Omega.{arith}
use borrow.Author.Rules.{rules}
use Rattle.primitives.proofs.Reversal.{brev_turn, brev_fits, brev_end}
use Rattle.primitives.proofs.brev.Goals as goal

pub overflow_add-t : goal.overflow_add-t
overflow_add-t c =
    let l = c.loop-i in
    record { fits = brev_fits c.args.num_bits c.args.x c.requires l.i l.rest l.t c.loop-i-test.true l.invariant.1 }

pub loop-i-preserved : goal.loop-i-preserved
loop-i-preserved c =
    let l = c.loop-i in
    (search rules, brev_turn c.args.num_bits c.args.x c.requires l.i l.rest l.t c.loop-i-test.true l.invariant.1)

pub returns : goal.returns
returns c = let l = c.loop-i in omega (arith, brev_end c.args.num_bits l.i l.rest (omega arith), l.invariant.1)
