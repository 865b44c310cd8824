use mathlib.Core.Path.{◌≡◌, sym, ap, ◌∙◌}
use mathlib.Core.Bool.{false}
use Prim.Native.Nat.{◌≤◌}
use borrow.Author.Tests.{lt-ltb, le-ltb}
use lib.ListN.{length}
use lib.Pow.{pow_pos}
use Rattle.answers.specs.Bad.{bad_side}
use Rattle.answers.specs.Sizes.{area}
use Rattle.answers.proofs.Passed.{side_range}
use Rattle.std.specs.Prelude.{Ok}
use Rattle.summary.specs.Summary.{summarized}
use Rattle.summary.proofs.row_summary.Goals as goal
use Rattle.summary.proofs.row_summary.Goals.{Else-bad_side, Else-block-area}

no1 : (c : Else-bad_side) → bad_side c.args.n ≡ false
no1 c = sym c.bad_side.ensures ∙ c.if-bad_side.false

pub returns-then-bad_side : goal.returns-then-bad_side
unfolding summarized
returns-then-bad_side c = rw (sym c.bad_side.ensures ∙ c.if-bad_side.true)

pub area-requires : goal.area-requires
area-requires c = side_range _ (no1 c)

pub returns-then-block-area : goal.returns-then-block-area
unfolding summarized
returns-then-block-area c =
    rw (no1 c.before.before, lt-ltb _ _ (rw c.area.ensures.0 at c.if-block-area.true))

pub side-requires : goal.side-requires
side-requires c = side_range _ (no1 c.before.before)

-- there is room for the block
room : (c : Else-block-area) → area c.args.n ≤ length c.args.block.now
room c = rw c.area.ensures.0 at c.if-block-area.false

pub scan-requires : goal.scan-requires
scan-requires c =
    let n = c.args.n in
    (rw c.side.ensures.0 (pow_pos n), c.side.ensures.1, rw c.side.ensures.0 (room c.before))

pub returns : goal.returns
unfolding summarized
returns c =
    rw (no1 c.before.before.before.before, le-ltb _ _ (room c.before.before)) (ap Ok (rw c.side.ensures.0 at c.scan.ensures))
