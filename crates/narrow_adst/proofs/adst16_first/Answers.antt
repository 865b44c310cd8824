-- `narrow_adst::adst16_first` meets its contract: its calls are the steps, one after the other.
use mathlib.Core.Path.{◌≡◌, refl, sym, ap, ◌∙◌, subst}
use mathlib.Core.List.{List, [], ◌∷◌}
use Prim.Native.Nat.{ℕ}
use lib.Dec.{lit<}
use Rattle.whole.specs.Inner.{Ok}
use Rattle.whole.specs.Steps.{run, each}
use Rattle.steps.specs.Step.{A4}
use Rattle.steps.specs.Step2.{Step2, on, SH, step2}
use Rattle.adst.specs.Inner.{arrays}
use Rattle.narrow.specs.Inner.{Fine216}
use Rattle.flat.proofs.Straight.{Done, begin, call, next, end}
use Rattle.narrow_adst.specs.Inner.{first16}
use Rattle.narrow_adst.proofs.adst16_first.Goals as goal
use Rattle.narrow_adst.proofs.adst16_first.Goals.{After-fsh16, After-fsh16-2, After-fsh16-3, After-fsh16-4, After-fsh16-5, After-fsh16-6, After-fsh16-7, After-fsh16-8, Start}

abbrev steps : List Step2
steps =
    SH 0 8 ∷ SH 1 9 ∷ SH 2 10 ∷ SH 3 11 ∷ SH 4 12 ∷ SH 5 13 ∷ SH 6 14 ∷ SH 7 15 ∷ []

all : first16 ≡ steps
unfolding first16 each
all = refl

-- after k calls
abbrev At : ℕ → Type 0
At k = Done step2 Fine216 steps k

abbrev at0 : Start → At 0
at0 c = begin (subst (λ (ss : List Step2). Ok step2 Fine216 ss (arrays c.args.t.now c.args.s.now)) all c.requires)

abbrev at1 : After-fsh16 → At 1
at1 c = next (on A4) (at0 c.before.before) (lit< tt) c.fsh16.ensures

abbrev at2 : After-fsh16-2 → At 2
at2 c = next (on A4) (at1 c.before.before) (lit< tt) c.fsh16-2.ensures

abbrev at3 : After-fsh16-3 → At 3
at3 c = next (on A4) (at2 c.before.before) (lit< tt) c.fsh16-3.ensures

abbrev at4 : After-fsh16-4 → At 4
at4 c = next (on A4) (at3 c.before.before) (lit< tt) c.fsh16-4.ensures

abbrev at5 : After-fsh16-5 → At 5
at5 c = next (on A4) (at4 c.before.before) (lit< tt) c.fsh16-5.ensures

abbrev at6 : After-fsh16-6 → At 6
at6 c = next (on A4) (at5 c.before.before) (lit< tt) c.fsh16-6.ensures

abbrev at7 : After-fsh16-7 → At 7
at7 c = next (on A4) (at6 c.before.before) (lit< tt) c.fsh16-7.ensures

abbrev at8 : After-fsh16-8 → At 8
at8 c = next (on A4) (at7 c.before.before) (lit< tt) c.fsh16-8.ensures

pub returns : goal.returns
returns c = end (at8 c) refl ∙ ap (λ (ss : List Step2). run step2 ss (at8 c).start) (sym all)

pub fsh16-requires : goal.fsh16-requires
fsh16-requires c = call (on A4) (at0 c.before) (lit< tt)

pub fsh16-requires-2 : goal.fsh16-requires-2
fsh16-requires-2 c = call (on A4) (at1 c.before) (lit< tt)

pub fsh16-requires-3 : goal.fsh16-requires-3
fsh16-requires-3 c = call (on A4) (at2 c.before) (lit< tt)

pub fsh16-requires-4 : goal.fsh16-requires-4
fsh16-requires-4 c = call (on A4) (at3 c.before) (lit< tt)

pub fsh16-requires-5 : goal.fsh16-requires-5
fsh16-requires-5 c = call (on A4) (at4 c.before) (lit< tt)

pub fsh16-requires-6 : goal.fsh16-requires-6
fsh16-requires-6 c = call (on A4) (at5 c.before) (lit< tt)

pub fsh16-requires-7 : goal.fsh16-requires-7
fsh16-requires-7 c = call (on A4) (at6 c.before) (lit< tt)

pub fsh16-requires-8 : goal.fsh16-requires-8
fsh16-requires-8 c = call (on A4) (at7 c.before) (lit< tt)
