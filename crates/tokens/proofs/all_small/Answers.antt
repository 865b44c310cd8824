-- `tokens::all_small` meets its contract.
use mathlib.Core.Path.{◌≡◌}
use Prim.Native.Nat.{◌+◌}
use native.Mathlib.Omega.{arith}
use borrow.Author.Tests.{ltb-true}
use Rattle.tokens.proofs.all_small.Goals as goal

pub returns-then-count-eq16 : goal.returns-then-count-eq16
returns-then-count-eq16 c h =
    record {
      small = λ k l. let e : 0 + k ≡ k = omega arith in
          rw e at (c.or_plus_most.ensures (omega (arith, ltb-true c.or_plus_most.result 32768 h)) k (omega (arith, c.if-count-eq16.true)));
    }

pub returns : goal.returns
returns c h =
    record {
      small = λ k l. let e : 0 + k ≡ k = omega arith in
          rw e at (c.or_plus_most-2.ensures (omega (arith, ltb-true c.or_plus_most-2.result 32768 h)) k l);
    }
