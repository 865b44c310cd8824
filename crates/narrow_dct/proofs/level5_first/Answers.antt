-- `narrow_dct::level5_first` meets its contract: its calls are the steps, one after the other.
use mathlib.Core.Path.{◌≡◌, refl, sym, ap, ◌∙◌, subst}
use mathlib.Core.Bool.{true, false}
use mathlib.Core.List.{List, [], ◌∷◌}
use Prim.Native.Nat.{ℕ}
use lib.Dec.{lit<}
use lib.IntN.{pos}
use Rattle.whole.specs.Inner.{Ok}
use Rattle.whole.specs.Steps.{run, each, when}
use Rattle.steps.specs.Step.{Step, Bf, Hd, A4, step}
use Rattle.dct.specs.Dct.{steps3}
use Rattle.narrow.specs.Inner.{Fine16}
use Rattle.narrow.proofs.Angles.{asks, does, angle12, angle28, angle68, angle84}
use Rattle.flat.proofs.Straight.{Done, begin, call, next, end}
use Rattle.narrow_dct.specs.Inner.{first5}
use Rattle.narrow_dct.proofs.level5_first.Goals as goal
use Rattle.narrow_dct.proofs.level5_first.Goals.{After-fb16, After-fb16-2, After-fb16-3, After-fb16-4, After-fh16, After-fh16-2, After-fh16-3, After-fh16-4, After-fh16-5, After-fh16-6, After-fh16-7, After-fh16-8, Start}

abbrev steps : List Step
steps =
    Hd 16 17 false ∷ Hd 18 19 true ∷ Hd 20 21 false ∷ Hd 22 23 true ∷ Hd 24 25 false ∷ Hd 26 27 true ∷ Hd 28 29 false ∷ Hd 30 31 true ∷
    Bf 30 17 (pos 28) true ∷ Bf 22 25 (pos 84) true ∷ Bf 26 21 (pos 12) true ∷ Bf 18 29 (pos 68) true ∷ []

all : first5 ≡ steps
unfolding first5 steps3 each when
all = refl

-- after k calls
abbrev At : ℕ → Type 0
At k = Done step Fine16 steps k

abbrev at0 : Start → At 0
at0 c = begin (subst (λ (ss : List Step). Ok step Fine16 ss c.args.t.now) all c.requires)

abbrev at1 : After-fh16 → At 1
at1 c = next A4 (at0 c.before.before) (lit< tt) c.fh16.ensures

abbrev at2 : After-fh16-2 → At 2
at2 c = next A4 (at1 c.before.before) (lit< tt) c.fh16-2.ensures

abbrev at3 : After-fh16-3 → At 3
at3 c = next A4 (at2 c.before.before) (lit< tt) c.fh16-3.ensures

abbrev at4 : After-fh16-4 → At 4
at4 c = next A4 (at3 c.before.before) (lit< tt) c.fh16-4.ensures

abbrev at5 : After-fh16-5 → At 5
at5 c = next A4 (at4 c.before.before) (lit< tt) c.fh16-5.ensures

abbrev at6 : After-fh16-6 → At 6
at6 c = next A4 (at5 c.before.before) (lit< tt) c.fh16-6.ensures

abbrev at7 : After-fh16-7 → At 7
at7 c = next A4 (at6 c.before.before) (lit< tt) c.fh16-7.ensures

abbrev at8 : After-fh16-8 → At 8
at8 c = next A4 (at7 c.before.before) (lit< tt) c.fh16-8.ensures

abbrev at9 : After-fb16 → At 9
at9 c = let d = at8 c.before.before in next A4 d (lit< tt) (does angle28 30 17 true d.here c.fb16.ensures)

abbrev at10 : After-fb16-2 → At 10
at10 c = let d = at9 c.before.before in next A4 d (lit< tt) (does angle84 22 25 true d.here c.fb16-2.ensures)

abbrev at11 : After-fb16-3 → At 11
at11 c = let d = at10 c.before.before in next A4 d (lit< tt) (does angle12 26 21 true d.here c.fb16-3.ensures)

abbrev at12 : After-fb16-4 → At 12
at12 c = let d = at11 c.before.before in next A4 d (lit< tt) (does angle68 18 29 true d.here c.fb16-4.ensures)

pub returns : goal.returns
returns c = end (at12 c) refl ∙ ap (λ (ss : List Step). run step ss (at12 c).start) (sym all)

pub fh16-requires : goal.fh16-requires
fh16-requires c = call A4 (at0 c.before) (lit< tt)

pub fh16-requires-2 : goal.fh16-requires-2
fh16-requires-2 c = call A4 (at1 c.before) (lit< tt)

pub fh16-requires-3 : goal.fh16-requires-3
fh16-requires-3 c = call A4 (at2 c.before) (lit< tt)

pub fh16-requires-4 : goal.fh16-requires-4
fh16-requires-4 c = call A4 (at3 c.before) (lit< tt)

pub fh16-requires-5 : goal.fh16-requires-5
fh16-requires-5 c = call A4 (at4 c.before) (lit< tt)

pub fh16-requires-6 : goal.fh16-requires-6
fh16-requires-6 c = call A4 (at5 c.before) (lit< tt)

pub fh16-requires-7 : goal.fh16-requires-7
fh16-requires-7 c = call A4 (at6 c.before) (lit< tt)

pub fh16-requires-8 : goal.fh16-requires-8
fh16-requires-8 c = call A4 (at7 c.before) (lit< tt)

pub fb16-requires : goal.fb16-requires
fb16-requires c = let d = at8 c.before in asks angle28 30 17 true d.here (call A4 d (lit< tt))

pub fb16-requires-2 : goal.fb16-requires-2
fb16-requires-2 c = let d = at9 c.before in asks angle84 22 25 true d.here (call A4 d (lit< tt))

pub fb16-requires-3 : goal.fb16-requires-3
fb16-requires-3 c = let d = at10 c.before in asks angle12 26 21 true d.here (call A4 d (lit< tt))

pub fb16-requires-4 : goal.fb16-requires-4
fb16-requires-4 c = let d = at11 c.before in asks angle68 18 29 true d.here (call A4 d (lit< tt))
