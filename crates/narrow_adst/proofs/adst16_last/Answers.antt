-- `narrow_adst::adst16_last` meets its contract: its calls are the steps, one after the other.
use mathlib.Core.Path.{◌≡◌, refl, sym, ap, ◌∙◌, subst}
use mathlib.Core.Bool.{false}
use mathlib.Core.List.{List, [], ◌∷◌}
use Prim.Native.Nat.{ℕ}
use lib.Dec.{lit<, lit≤}
use lib.IntN.{pos}
use Rattle.whole.specs.Inner.{Ok}
use Rattle.whole.specs.Steps.{run, each}
use Rattle.steps.specs.Step.{Step, Bf, Neg, Move, A4, step}
use Rattle.adst.specs.Adst.{adst_out}
use Rattle.narrow.specs.Inner.{Fine16}
use Rattle.narrow.proofs.Angles.{asks, does, angle48, angle112}
use Rattle.flat.proofs.Straight.{Done, begin, call, next, end}
use Rattle.narrow_adst.specs.Inner.{last16}
use Rattle.narrow_adst.proofs.adst16_last.Goals as goal
use Rattle.narrow_adst.proofs.adst16_last.Goals.{After-fb16, After-fb16-2, After-fb16-3, After-fb16-4, After-fneg16, After-fneg16-2, After-fneg16-3, After-fneg16-4, After-permute, Start}

abbrev steps : List Step
steps =
    Bf 2 3 (pos 48) false ∷ Bf 6 7 (pos 112) false ∷ Bf 10 11 (pos 112) false ∷ Bf 14 15 (pos 48) false ∷ Move 16 (adst_out 4) ∷ Neg 1 ∷ Neg 3 ∷
    Neg 13 ∷ Neg 15 ∷ []

all : last16 ≡ steps
unfolding last16 each
all = refl

-- after k calls
abbrev At : ℕ → Type 0
At k = Done step Fine16 steps k

abbrev at0 : Start → At 0
at0 c = begin (subst (λ (ss : List Step). Ok step Fine16 ss c.args.t.now) all c.requires)

abbrev at1 : After-fb16 → At 1
at1 c = let d = at0 c.before.before in next A4 d (lit< tt) (does angle48 2 3 false d.here c.fb16.ensures)

abbrev at2 : After-fb16-2 → At 2
at2 c = let d = at1 c.before.before in next A4 d (lit< tt) (does angle112 6 7 false d.here c.fb16-2.ensures)

abbrev at3 : After-fb16-3 → At 3
at3 c = let d = at2 c.before.before in next A4 d (lit< tt) (does angle112 10 11 false d.here c.fb16-3.ensures)

abbrev at4 : After-fb16-4 → At 4
at4 c = let d = at3 c.before.before in next A4 d (lit< tt) (does angle48 14 15 false d.here c.fb16-4.ensures)

abbrev at5 : After-permute → At 5
at5 c = next A4 (at4 c.before.before) (lit< tt) c.permute.ensures

abbrev at6 : After-fneg16 → At 6
at6 c = next A4 (at5 c.before.before) (lit< tt) c.fneg16.ensures

abbrev at7 : After-fneg16-2 → At 7
at7 c = next A4 (at6 c.before.before) (lit< tt) c.fneg16-2.ensures

abbrev at8 : After-fneg16-3 → At 8
at8 c = next A4 (at7 c.before.before) (lit< tt) c.fneg16-3.ensures

abbrev at9 : After-fneg16-4 → At 9
at9 c = next A4 (at8 c.before.before) (lit< tt) c.fneg16-4.ensures

pub returns : goal.returns
returns c = end (at9 c) refl ∙ ap (λ (ss : List Step). run step ss (at9 c).start) (sym all)

pub fb16-requires : goal.fb16-requires
fb16-requires c = let d = at0 c.before in asks angle48 2 3 false d.here (call A4 d (lit< tt))

pub fb16-requires-2 : goal.fb16-requires-2
fb16-requires-2 c = let d = at1 c.before in asks angle112 6 7 false d.here (call A4 d (lit< tt))

pub fb16-requires-3 : goal.fb16-requires-3
fb16-requires-3 c = let d = at2 c.before in asks angle112 10 11 false d.here (call A4 d (lit< tt))

pub fb16-requires-4 : goal.fb16-requires-4
fb16-requires-4 c = let d = at3 c.before in asks angle48 14 15 false d.here (call A4 d (lit< tt))

pub permute-requires : goal.permute-requires
permute-requires c = (lit≤ tt, lit≤ tt, refl)

pub fneg16-requires : goal.fneg16-requires
fneg16-requires c = call A4 (at5 c.before) (lit< tt)

pub fneg16-requires-2 : goal.fneg16-requires-2
fneg16-requires-2 c = call A4 (at6 c.before) (lit< tt)

pub fneg16-requires-3 : goal.fneg16-requires-3
fneg16-requires-3 c = call A4 (at7 c.before) (lit< tt)

pub fneg16-requires-4 : goal.fneg16-requires-4
fneg16-requires-4 c = call A4 (at8 c.before) (lit< tt)
