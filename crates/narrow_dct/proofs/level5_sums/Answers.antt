-- `narrow_dct::level5_sums` meets its contract: its calls are the steps, one after the other.
use mathlib.Core.Path.{◌≡◌, refl, sym, ap, ◌∙◌, subst}
use mathlib.Core.Bool.{false}
use mathlib.Core.List.{List, [], ◌∷◌}
use Prim.Native.Nat.{ℕ}
use lib.Dec.{lit<}
use Rattle.whole.specs.Inner.{Ok}
use Rattle.whole.specs.Steps.{run, each}
use Rattle.steps.specs.Step.{Step, Hd, A4, step}
use Rattle.dct.specs.Dct.{steps7}
use Rattle.narrow.specs.Inner.{Fine16}
use Rattle.flat.proofs.Straight.{Done, begin, call, next, end}
use Rattle.narrow_dct.specs.Inner.{sums5}
use Rattle.narrow_dct.proofs.level5_sums.Goals as goal
use Rattle.narrow_dct.proofs.level5_sums.Goals.{After-fh16, After-fh16-10, After-fh16-11, After-fh16-12, After-fh16-13, After-fh16-14, After-fh16-15, After-fh16-16, After-fh16-2, After-fh16-3, After-fh16-4, After-fh16-5, After-fh16-6, After-fh16-7, After-fh16-8, After-fh16-9, Start}

abbrev steps : List Step
steps =
    Hd 0 31 false ∷ Hd 1 30 false ∷ Hd 2 29 false ∷ Hd 3 28 false ∷ Hd 4 27 false ∷ Hd 5 26 false ∷ Hd 6 25 false ∷ Hd 7 24 false ∷ Hd 8 23 false ∷
    Hd 9 22 false ∷ Hd 10 21 false ∷ Hd 11 20 false ∷ Hd 12 19 false ∷ Hd 13 18 false ∷ Hd 14 17 false ∷ Hd 15 16 false ∷ []

all : sums5 ≡ steps
unfolding sums5 steps7 each
all = refl

-- after k calls
abbrev At : ℕ → Type 0
At k = Done step Fine16 steps k

abbrev at0 : Start → At 0
at0 c = begin (subst (λ (ss : List Step). Ok step Fine16 ss c.args.t.now) all c.requires)

abbrev at1 : After-fh16 → At 1
at1 c = next A4 (at0 c.before.before) (lit< tt) c.fh16.ensures

abbrev at2 : After-fh16-2 → At 2
at2 c = next A4 (at1 c.before.before) (lit< tt) c.fh16-2.ensures

abbrev at3 : After-fh16-3 → At 3
at3 c = next A4 (at2 c.before.before) (lit< tt) c.fh16-3.ensures

abbrev at4 : After-fh16-4 → At 4
at4 c = next A4 (at3 c.before.before) (lit< tt) c.fh16-4.ensures

abbrev at5 : After-fh16-5 → At 5
at5 c = next A4 (at4 c.before.before) (lit< tt) c.fh16-5.ensures

abbrev at6 : After-fh16-6 → At 6
at6 c = next A4 (at5 c.before.before) (lit< tt) c.fh16-6.ensures

abbrev at7 : After-fh16-7 → At 7
at7 c = next A4 (at6 c.before.before) (lit< tt) c.fh16-7.ensures

abbrev at8 : After-fh16-8 → At 8
at8 c = next A4 (at7 c.before.before) (lit< tt) c.fh16-8.ensures

abbrev at9 : After-fh16-9 → At 9
at9 c = next A4 (at8 c.before.before) (lit< tt) c.fh16-9.ensures

abbrev at10 : After-fh16-10 → At 10
at10 c = next A4 (at9 c.before.before) (lit< tt) c.fh16-10.ensures

abbrev at11 : After-fh16-11 → At 11
at11 c = next A4 (at10 c.before.before) (lit< tt) c.fh16-11.ensures

abbrev at12 : After-fh16-12 → At 12
at12 c = next A4 (at11 c.before.before) (lit< tt) c.fh16-12.ensures

abbrev at13 : After-fh16-13 → At 13
at13 c = next A4 (at12 c.before.before) (lit< tt) c.fh16-13.ensures

abbrev at14 : After-fh16-14 → At 14
at14 c = next A4 (at13 c.before.before) (lit< tt) c.fh16-14.ensures

abbrev at15 : After-fh16-15 → At 15
at15 c = next A4 (at14 c.before.before) (lit< tt) c.fh16-15.ensures

abbrev at16 : After-fh16-16 → At 16
at16 c = next A4 (at15 c.before.before) (lit< tt) c.fh16-16.ensures

pub returns : goal.returns
returns c = end (at16 c) refl ∙ ap (λ (ss : List Step). run step ss (at16 c).start) (sym all)

pub fh16-requires : goal.fh16-requires
fh16-requires c = call A4 (at0 c.before) (lit< tt)

pub fh16-requires-2 : goal.fh16-requires-2
fh16-requires-2 c = call A4 (at1 c.before) (lit< tt)

pub fh16-requires-3 : goal.fh16-requires-3
fh16-requires-3 c = call A4 (at2 c.before) (lit< tt)

pub fh16-requires-4 : goal.fh16-requires-4
fh16-requires-4 c = call A4 (at3 c.before) (lit< tt)

pub fh16-requires-5 : goal.fh16-requires-5
fh16-requires-5 c = call A4 (at4 c.before) (lit< tt)

pub fh16-requires-6 : goal.fh16-requires-6
fh16-requires-6 c = call A4 (at5 c.before) (lit< tt)

pub fh16-requires-7 : goal.fh16-requires-7
fh16-requires-7 c = call A4 (at6 c.before) (lit< tt)

pub fh16-requires-8 : goal.fh16-requires-8
fh16-requires-8 c = call A4 (at7 c.before) (lit< tt)

pub fh16-requires-9 : goal.fh16-requires-9
fh16-requires-9 c = call A4 (at8 c.before) (lit< tt)

pub fh16-requires-10 : goal.fh16-requires-10
fh16-requires-10 c = call A4 (at9 c.before) (lit< tt)

pub fh16-requires-11 : goal.fh16-requires-11
fh16-requires-11 c = call A4 (at10 c.before) (lit< tt)

pub fh16-requires-12 : goal.fh16-requires-12
fh16-requires-12 c = call A4 (at11 c.before) (lit< tt)

pub fh16-requires-13 : goal.fh16-requires-13
fh16-requires-13 c = call A4 (at12 c.before) (lit< tt)

pub fh16-requires-14 : goal.fh16-requires-14
fh16-requires-14 c = call A4 (at13 c.before) (lit< tt)

pub fh16-requires-15 : goal.fh16-requires-15
fh16-requires-15 c = call A4 (at14 c.before) (lit< tt)

pub fh16-requires-16 : goal.fh16-requires-16
fh16-requires-16 c = call A4 (at15 c.before) (lit< tt)
