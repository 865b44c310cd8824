-- `narrow_adst::adst8_last` meets its contract: its calls are the steps, one after the other.
use mathlib.Core.Path.{◌≡◌, refl, sym, ap, ◌∙◌, subst}
use mathlib.Core.List.{List, [], ◌∷◌}
use Prim.Native.Nat.{ℕ}
use lib.Dec.{lit<, lit≤}
use Rattle.whole.specs.Inner.{Ok}
use Rattle.whole.specs.Steps.{run, each}
use Rattle.steps.specs.Step.{Step, Neg, Move, A4, step}
use Rattle.adst.specs.Adst.{adst_out}
use Rattle.narrow.specs.Inner.{Fine16}
use Rattle.flat.proofs.Straight.{Done, begin, call, next, end}
use Rattle.narrow_adst.specs.Inner.{last8}
use Rattle.narrow_adst.proofs.adst8_last.Goals as goal
use Rattle.narrow_adst.proofs.adst8_last.Goals.{After-fneg16, After-fneg16-2, After-fneg16-3, After-fneg16-4, After-permute, Start}

abbrev steps : List Step
steps =
    Move 8 (adst_out 3) ∷ Neg 1 ∷ Neg 3 ∷ Neg 5 ∷ Neg 7 ∷ []

all : last8 ≡ steps
unfolding last8 each
all = refl

-- after k calls
abbrev At : ℕ → Type 0
At k = Done step Fine16 steps k

abbrev at0 : Start → At 0
at0 c = begin (subst (λ (ss : List Step). Ok step Fine16 ss c.args.t.now) all c.requires)

abbrev at1 : After-permute → At 1
at1 c = next A4 (at0 c.before.before) (lit< tt) c.permute.ensures

abbrev at2 : After-fneg16 → At 2
at2 c = next A4 (at1 c.before.before) (lit< tt) c.fneg16.ensures

abbrev at3 : After-fneg16-2 → At 3
at3 c = next A4 (at2 c.before.before) (lit< tt) c.fneg16-2.ensures

abbrev at4 : After-fneg16-3 → At 4
at4 c = next A4 (at3 c.before.before) (lit< tt) c.fneg16-3.ensures

abbrev at5 : After-fneg16-4 → At 5
at5 c = next A4 (at4 c.before.before) (lit< tt) c.fneg16-4.ensures

pub returns : goal.returns
returns c = end (at5 c) refl ∙ ap (λ (ss : List Step). run step ss (at5 c).start) (sym all)

pub permute-requires : goal.permute-requires
permute-requires c = (lit≤ tt, lit≤ tt, refl)

pub fneg16-requires : goal.fneg16-requires
fneg16-requires c = call A4 (at1 c.before) (lit< tt)

pub fneg16-requires-2 : goal.fneg16-requires-2
fneg16-requires-2 c = call A4 (at2 c.before) (lit< tt)

pub fneg16-requires-3 : goal.fneg16-requires-3
fneg16-requires-3 c = call A4 (at3 c.before) (lit< tt)

pub fneg16-requires-4 : goal.fneg16-requires-4
fneg16-requires-4 c = call A4 (at4 c.before) (lit< tt)
