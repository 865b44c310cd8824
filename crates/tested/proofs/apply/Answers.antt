-- `tested::apply` meets its contract.
use mathlib.Core.Path.{sym, ap, ◌∙◌}
use mathlib.Core.Bool.{true}
use Prim.Native.Nat.{ℕ, ◌<◌, ◌^◌}
use lib.Dec.{T}
use lib.IntN.{ℤ}
use mir.Syntax.{w8}
use mir.Val.{to_z, of_z}
use Rattle.primitives.specs.Brev.{Brev}
use Rattle.steps.specs.Step2.{Arrays}
use Rattle.adst.specs.Adst.{adst_in, adst_out}
use Rattle.adst.specs.Inner.{arrays}
use Rattle.narrow.proofs.Safe.{told_T, free_SB}
use Rattle.tested.specs.Inner.{known, step_of}
use Rattle.tested.specs.declared.Step.TheVariants.{Sums}
use Rattle.tested.proofs.Angles.{known_fits}
use Rattle.tested.proofs.Entries.{turn_asks, sums_ask, products_ask, sums_of_s_ask, negate_asks, enter_asks, leave_asks, shift_asks, step_is, flip_told, move_told}
use Rattle.tested.proofs.apply.Goals as goal
use Rattle.tested.proofs.apply.Goals.{Start}

abbrev both : Start → Arrays
both s = arrays s.args.t.now s.args.s.now

-- the angle as the code has it
written : (a b m : ℕ) (g : ℤ) → (a < m) × (b < m) × T (known g) → (a < m) × (b < m) × T (known (to_z w8 (of_z w8 g)))
written a b m g h = (h.0, h.1, rw (known_fits g h.2) h.2)

pub turn-requires : goal.turn-requires
turn-requires c = written c.in-Turn.a c.in-Turn.b 32 c.in-Turn.angle (turn_asks c.args.n c.requires.2 c.in-Turn.is)

pub sums-requires : goal.sums-requires
sums-requires c = let p = sums_ask c.args.n c.requires.2 c.in-Sums.is in (p.1, p.0)

pub sums-requires-else-flip : goal.sums-requires-else-flip
sums-requires-else-flip c = sums_ask c.args.n c.requires.2 c.in-Sums.is

pub products-requires : goal.products-requires
products-requires c = written c.in-Products.a c.in-Products.b 16 c.in-Products.angle (products_ask c.args.n c.requires.2 c.in-Products.is)

pub sums_of_s-requires : goal.sums_of_s-requires
sums_of_s-requires c =
    let p = sums_of_s_ask c.args.n c.requires.2 c.in-SumsOfS.is in
    (p.0, p.1, c.requires.4)

pub negate-requires : goal.negate-requires
negate-requires c = negate_asks c.args.n c.requires.2 c.in-Negate.is

pub enter-requires : goal.enter-requires
enter-requires c = enter_asks c.args.n c.requires.2 c.in-Enter.is

pub leave-requires : goal.leave-requires
leave-requires c = leave_asks c.args.n c.requires.2 c.in-Leave.is

pub wht4-requires : goal.wht4-requires
wht4-requires c = (shift_asks c.args.n c.requires.2 c.in-Wht.is, c.requires.3)

pub returns-in-Reverse : goal.returns-in-Reverse
unfolding step_of
returns-in-Reverse c = move_told _ (2 ^ c.args.n) (Brev c.args.n) (arrays c.args.t.now c.args.s.now) (step_is c.args.n c.in-Reverse.is) c.reverse.ensures

pub returns-in-Turn : goal.returns-in-Turn
unfolding step_of
returns-in-Turn c =
    let k = known_fits c.in-Turn.angle (turn_asks c.args.n c.requires.2 c.in-Turn.is).2 in
    told_T _ (arrays c.args.t.now c.args.s.now) (step_is c.args.n c.in-Turn.is) (rw k at c.turn.ensures)

pub returns-then-flip : goal.returns-then-flip
unfolding step_of
returns-then-flip c =
    told_T _ (arrays c.args.t.now c.args.s.now) (step_is c.args.n (c.in-Sums.is ∙ ap (Sums c.in-Sums.a c.in-Sums.b) c.if-flip.true)) (flip_told _ _ c.args.t.now c.sums.ensures)

pub returns-else-flip : goal.returns-else-flip
unfolding step_of
returns-else-flip c =
    told_T _ (arrays c.args.t.now c.args.s.now) (step_is c.args.n (c.in-Sums.is ∙ ap (Sums c.in-Sums.a c.in-Sums.b) c.if-flip.false)) c.sums-else-flip.ensures

pub returns-in-Products : goal.returns-in-Products
unfolding step_of
returns-in-Products c =
    let k = known_fits c.in-Products.angle (products_ask c.args.n c.requires.2 c.in-Products.is).2 in
    rw (step_is c.args.n c.in-Products.is) (sym (free_SB c.in-Products.a c.in-Products.b c.in-Products.angle true (arrays c.args.t.now c.args.s.now)), λ _. rw k at c.products.ensures)

pub returns-in-SumsOfS : goal.returns-in-SumsOfS
unfolding step_of
returns-in-SumsOfS c = rw (step_is c.args.n c.in-SumsOfS.is) c.sums_of_s.ensures

pub returns-in-Negate : goal.returns-in-Negate
unfolding step_of
returns-in-Negate c = told_T _ (arrays c.args.t.now c.args.s.now) (step_is c.args.n c.in-Negate.is) c.negate.ensures

pub returns-in-Enter : goal.returns-in-Enter
unfolding step_of
returns-in-Enter c = move_told _ (2 ^ c.args.n) (adst_in c.args.n) (arrays c.args.t.now c.args.s.now) (step_is c.args.n c.in-Enter.is) c.enter.ensures

pub returns-in-Leave : goal.returns-in-Leave
unfolding step_of
returns-in-Leave c = move_told _ (2 ^ c.args.n) (adst_out c.args.n) (arrays c.args.t.now c.args.s.now) (step_is c.args.n c.in-Leave.is) c.leave.ensures

pub returns-in-Adst4 : goal.returns-in-Adst4
unfolding step_of
returns-in-Adst4 c = told_T _ (arrays c.args.t.now c.args.s.now) (step_is c.args.n c.in-Adst4.is) c.adst4.ensures

pub returns-in-Wht : goal.returns-in-Wht
unfolding step_of
returns-in-Wht c = told_T _ (arrays c.args.t.now c.args.s.now) (step_is c.args.n c.in-Wht.is) c.wht4.ensures
