use mathlib.Core.Path.{◌≡◌}
use native.Mathlib.Omega.{arith}
use Rattle.passes.proofs.both_passes.Goals as goal
use Rattle.passes.proofs.both_passes.Goals.{In-3, In-4, In_default}

is3 : (c : In-3) → c.args.n ≡ 3
is3 c = c.in-3.is

is4 : (c : In-4) → c.args.n ≡ 4
is4 c = c.in-4.is

is5 : (c : In_default) → c.args.n ≡ 5
is5 c = omega arith

pub by_summary-requires : goal.by_summary-requires
by_summary-requires c =
    let e = is3 c.before in
    (rw e at c.requires.1, rw e at c.requires.2, rw e at c.requires.3)

pub by_summary-requires-in-4 : goal.by_summary-requires-in-4
by_summary-requires-in-4 c =
    let e = is4 c.before in
    (rw e at c.requires.1, rw e at c.requires.2, rw e at c.requires.3)

pub by_summary-requires-in_default : goal.by_summary-requires-in_default
by_summary-requires-in_default c =
    let e = is5 c.before in
    (rw e at c.requires.1, rw e at c.requires.2, rw e at c.requires.3)

pub returns-in-3 : goal.returns-in-3
returns-in-3 c = rw (is3 c.before.before.before) c.by_summary.ensures

pub returns-in-4 : goal.returns-in-4
returns-in-4 c = rw (is4 c.before.before.before) c.by_summary-in-4.ensures

pub returns-in_default : goal.returns-in_default
returns-in_default c = rw (is5 c.before.before.before) c.by_summary-in_default.ensures
