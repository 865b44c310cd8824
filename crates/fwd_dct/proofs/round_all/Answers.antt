use mathlib.Core.Path.{◌≡◌, ap, ◌∙◌}
use mathlib.Core.List.{List}
use Prim.Native.Nat.{◌^◌}
use native.Mathlib.Nat as NatL
use borrow.Author.Rules.{rules}
use lib.Dec.{lit<}
use lib.IntN.{ℤ, pos}
use lib.ListN.{get_or, set}
use mir.Syntax.{w64}
use Rattle.whole.specs.Within.{Within}
use Rattle.whole.proofs.Within.{back}
use Rattle.whole.proofs.Signed.{rd_ok}
use Rattle.whole.proofs.Lists.{fill_none, fill_more, fill_done, fill_rest}
use Rattle.fwd_dct.proofs.round_all.Goals as goal
use Rattle.fwd_dct.proofs.round_all.Goals.{In-loop-x}

-- the number of a turn is as it was
unchanged : (c : In-loop-x) → get_or c.loop-x.block c.loop-x.x-index (pos 0) ≡ get_or c.args.block.now c.loop-x.x-index (pos 0)
unchanged c =
    let l = c.loop-x in
    ap (λ (u : List ℤ). get_or u l.x-index (pos 0)) l.invariant ∙ fill_rest (pos 0) l.x-index _ c.args.block.now l.x-index (NatL.le_refl l.x-index)

near : (c : In-loop-x) → Within (2 ^ 62) (get_or c.args.block.now c.loop-x.x-index (pos 0))
near c = c.requires.2.each c.loop-x.x-index c.loop-x-test.true

pub loop-x-init : goal.loop-x-init
loop-x-init c = fill_none _ _

pub round2-requires : goal.round2-requires
round2-requires c =
    let w = near c.before.before in (c.requires.0, c.requires.1, rw (unchanged c.before.before, back w64 (lit< tt) w) w)

pub loop-x-preserved : goal.loop-x-preserved
loop-x-preserved c =
    let l = c.loop-x in
    let w = near c.before.before.before in
    let r = rd_ok w64 c.round2.type_inv ∙ (rw (unchanged c.before.before.before, back w64 (lit< tt) w) at c.round2.ensures) in
    fill_more _ _ l.x-index l.invariant (ap (set l.block l.x-index) r)

pub returns : goal.returns
returns c = fill_done _ _ _ _ (search rules) (search rules) c.loop-x.invariant
