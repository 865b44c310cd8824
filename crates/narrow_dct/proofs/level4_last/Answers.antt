-- `narrow_dct::level4_last` meets its contract: its calls are the steps, one after the other.
use mathlib.Core.Path.{◌≡◌, refl, sym, ap, ◌∙◌, subst}
use mathlib.Core.Bool.{true, false}
use mathlib.Core.List.{List, [], ◌∷◌}
use Prim.Native.Nat.{ℕ}
use lib.Dec.{lit<}
use lib.IntN.{pos}
use Rattle.whole.specs.Inner.{Ok}
use Rattle.whole.specs.Steps.{run, each, when}
use Rattle.steps.specs.Step.{Step, Bf, Hd, A4, step}
use Rattle.dct.specs.Dct.{steps6, steps7}
use Rattle.narrow.specs.Inner.{Fine16}
use Rattle.narrow.proofs.Angles.{asks, does, angle16}
use Rattle.flat.proofs.Straight.{Done, begin, call, next, end}
use Rattle.narrow_dct.specs.Inner.{last4}
use Rattle.narrow_dct.proofs.level4_last.Goals as goal
use Rattle.narrow_dct.proofs.level4_last.Goals.{After-fb16, After-fb16-2, After-fh16, After-fh16-10, After-fh16-11, After-fh16-12, After-fh16-2, After-fh16-3, After-fh16-4, After-fh16-5, After-fh16-6, After-fh16-7, After-fh16-8, After-fh16-9, Start}

abbrev steps : List Step
steps =
    Hd 8 11 false ∷ Hd 12 15 true ∷ Hd 9 10 false ∷ Hd 13 14 true ∷ Bf 13 10 (pos 16) true ∷ Bf 12 11 (pos 16) true ∷ Hd 0 15 false ∷
    Hd 1 14 false ∷ Hd 2 13 false ∷ Hd 3 12 false ∷ Hd 4 11 false ∷ Hd 5 10 false ∷ Hd 6 9 false ∷ Hd 7 8 false ∷ []

all : last4 ≡ steps
unfolding last4 steps6 steps7 each when
all = refl

-- after k calls
abbrev At : ℕ → Type 0
At k = Done step Fine16 steps k

abbrev at0 : Start → At 0
at0 c = begin (subst (λ (ss : List Step). Ok step Fine16 ss c.args.t.now) all c.requires)

abbrev at1 : After-fh16 → At 1
at1 c = next A4 (at0 c.before.before) (lit< tt) c.fh16.ensures

abbrev at2 : After-fh16-2 → At 2
at2 c = next A4 (at1 c.before.before) (lit< tt) c.fh16-2.ensures

abbrev at3 : After-fh16-3 → At 3
at3 c = next A4 (at2 c.before.before) (lit< tt) c.fh16-3.ensures

abbrev at4 : After-fh16-4 → At 4
at4 c = next A4 (at3 c.before.before) (lit< tt) c.fh16-4.ensures

abbrev at5 : After-fb16 → At 5
at5 c = let d = at4 c.before.before in next A4 d (lit< tt) (does angle16 13 10 true d.here c.fb16.ensures)

abbrev at6 : After-fb16-2 → At 6
at6 c = let d = at5 c.before.before in next A4 d (lit< tt) (does angle16 12 11 true d.here c.fb16-2.ensures)

abbrev at7 : After-fh16-5 → At 7
at7 c = next A4 (at6 c.before.before) (lit< tt) c.fh16-5.ensures

abbrev at8 : After-fh16-6 → At 8
at8 c = next A4 (at7 c.before.before) (lit< tt) c.fh16-6.ensures

abbrev at9 : After-fh16-7 → At 9
at9 c = next A4 (at8 c.before.before) (lit< tt) c.fh16-7.ensures

abbrev at10 : After-fh16-8 → At 10
at10 c = next A4 (at9 c.before.before) (lit< tt) c.fh16-8.ensures

abbrev at11 : After-fh16-9 → At 11
at11 c = next A4 (at10 c.before.before) (lit< tt) c.fh16-9.ensures

abbrev at12 : After-fh16-10 → At 12
at12 c = next A4 (at11 c.before.before) (lit< tt) c.fh16-10.ensures

abbrev at13 : After-fh16-11 → At 13
at13 c = next A4 (at12 c.before.before) (lit< tt) c.fh16-11.ensures

abbrev at14 : After-fh16-12 → At 14
at14 c = next A4 (at13 c.before.before) (lit< tt) c.fh16-12.ensures

pub returns : goal.returns
returns c = end (at14 c) refl ∙ ap (λ (ss : List Step). run step ss (at14 c).start) (sym all)

pub fh16-requires : goal.fh16-requires
fh16-requires c = call A4 (at0 c.before) (lit< tt)

pub fh16-requires-2 : goal.fh16-requires-2
fh16-requires-2 c = call A4 (at1 c.before) (lit< tt)

pub fh16-requires-3 : goal.fh16-requires-3
fh16-requires-3 c = call A4 (at2 c.before) (lit< tt)

pub fh16-requires-4 : goal.fh16-requires-4
fh16-requires-4 c = call A4 (at3 c.before) (lit< tt)

pub fb16-requires : goal.fb16-requires
fb16-requires c = let d = at4 c.before in asks angle16 13 10 true d.here (call A4 d (lit< tt))

pub fb16-requires-2 : goal.fb16-requires-2
fb16-requires-2 c = let d = at5 c.before in asks angle16 12 11 true d.here (call A4 d (lit< tt))

pub fh16-requires-5 : goal.fh16-requires-5
fh16-requires-5 c = call A4 (at6 c.before) (lit< tt)

pub fh16-requires-6 : goal.fh16-requires-6
fh16-requires-6 c = call A4 (at7 c.before) (lit< tt)

pub fh16-requires-7 : goal.fh16-requires-7
fh16-requires-7 c = call A4 (at8 c.before) (lit< tt)

pub fh16-requires-8 : goal.fh16-requires-8
fh16-requires-8 c = call A4 (at9 c.before) (lit< tt)

pub fh16-requires-9 : goal.fh16-requires-9
fh16-requires-9 c = call A4 (at10 c.before) (lit< tt)

pub fh16-requires-10 : goal.fh16-requires-10
fh16-requires-10 c = call A4 (at11 c.before) (lit< tt)

pub fh16-requires-11 : goal.fh16-requires-11
fh16-requires-11 c = call A4 (at12 c.before) (lit< tt)

pub fh16-requires-12 : goal.fh16-requires-12
fh16-requires-12 c = call A4 (at13 c.before) (lit< tt)
