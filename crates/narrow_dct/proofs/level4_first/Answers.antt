-- `narrow_dct::level4_first` meets its contract: its calls are the steps, one after the other.
use mathlib.Core.Path.{◌≡◌, refl, sym, ap, ◌∙◌, subst}
use mathlib.Core.Bool.{true, false}
use mathlib.Core.List.{List, [], ◌∷◌}
use Prim.Native.Nat.{ℕ}
use lib.Dec.{lit<}
use lib.IntN.{pos}
use Rattle.whole.specs.Inner.{Ok}
use Rattle.whole.specs.Steps.{run, each, when}
use Rattle.primitives.specs.Brev.{Brev}
use Rattle.steps.specs.Step.{Step, Bf, Hd, A4, step}
use Rattle.dct.specs.Dct.{steps2, steps3}
use Rattle.narrow.specs.Inner.{Fine16}
use Rattle.narrow.proofs.Angles.{asks, does, angle6, angle14, angle22, angle24, angle30, angle72}
use Rattle.flat.proofs.Straight.{Done, begin, call, next, end}
use Rattle.narrow_dct.specs.Inner.{first4}
use Rattle.narrow_dct.proofs.level4_first.Goals as goal
use Rattle.narrow_dct.proofs.level4_first.Goals.{After-fb16, After-fb16-2, After-fb16-3, After-fb16-4, After-fb16-5, After-fb16-6, After-fh16, After-fh16-2, After-fh16-3, After-fh16-4, Start}

abbrev steps : List Step
steps =
    Bf 8 15 (pos 30) false ∷ Bf 9 14 (pos 14) false ∷ Bf 10 13 (pos 22) false ∷ Bf 11 12 (pos 6) false ∷ Hd 8 9 false ∷ Hd 10 11 true ∷
    Hd 12 13 false ∷ Hd 14 15 true ∷ Bf 14 9 (pos 24) true ∷ Bf 10 13 (pos 72) true ∷ []

all : first4 ≡ steps
unfolding first4 steps2 steps3 each when Brev
all = refl

-- after k calls
abbrev At : ℕ → Type 0
At k = Done step Fine16 steps k

abbrev at0 : Start → At 0
at0 c = begin (subst (λ (ss : List Step). Ok step Fine16 ss c.args.t.now) all c.requires)

abbrev at1 : After-fb16 → At 1
at1 c = let d = at0 c.before.before in next A4 d (lit< tt) (does angle30 8 15 false d.here c.fb16.ensures)

abbrev at2 : After-fb16-2 → At 2
at2 c = let d = at1 c.before.before in next A4 d (lit< tt) (does angle14 9 14 false d.here c.fb16-2.ensures)

abbrev at3 : After-fb16-3 → At 3
at3 c = let d = at2 c.before.before in next A4 d (lit< tt) (does angle22 10 13 false d.here c.fb16-3.ensures)

abbrev at4 : After-fb16-4 → At 4
at4 c = let d = at3 c.before.before in next A4 d (lit< tt) (does angle6 11 12 false d.here c.fb16-4.ensures)

abbrev at5 : After-fh16 → At 5
at5 c = next A4 (at4 c.before.before) (lit< tt) c.fh16.ensures

abbrev at6 : After-fh16-2 → At 6
at6 c = next A4 (at5 c.before.before) (lit< tt) c.fh16-2.ensures

abbrev at7 : After-fh16-3 → At 7
at7 c = next A4 (at6 c.before.before) (lit< tt) c.fh16-3.ensures

abbrev at8 : After-fh16-4 → At 8
at8 c = next A4 (at7 c.before.before) (lit< tt) c.fh16-4.ensures

abbrev at9 : After-fb16-5 → At 9
at9 c = let d = at8 c.before.before in next A4 d (lit< tt) (does angle24 14 9 true d.here c.fb16-5.ensures)

abbrev at10 : After-fb16-6 → At 10
at10 c = let d = at9 c.before.before in next A4 d (lit< tt) (does angle72 10 13 true d.here c.fb16-6.ensures)

pub returns : goal.returns
returns c = end (at10 c) refl ∙ ap (λ (ss : List Step). run step ss (at10 c).start) (sym all)

pub fb16-requires : goal.fb16-requires
fb16-requires c = let d = at0 c.before in asks angle30 8 15 false d.here (call A4 d (lit< tt))

pub fb16-requires-2 : goal.fb16-requires-2
fb16-requires-2 c = let d = at1 c.before in asks angle14 9 14 false d.here (call A4 d (lit< tt))

pub fb16-requires-3 : goal.fb16-requires-3
fb16-requires-3 c = let d = at2 c.before in asks angle22 10 13 false d.here (call A4 d (lit< tt))

pub fb16-requires-4 : goal.fb16-requires-4
fb16-requires-4 c = let d = at3 c.before in asks angle6 11 12 false d.here (call A4 d (lit< tt))

pub fh16-requires : goal.fh16-requires
fh16-requires c = call A4 (at4 c.before) (lit< tt)

pub fh16-requires-2 : goal.fh16-requires-2
fh16-requires-2 c = call A4 (at5 c.before) (lit< tt)

pub fh16-requires-3 : goal.fh16-requires-3
fh16-requires-3 c = call A4 (at6 c.before) (lit< tt)

pub fh16-requires-4 : goal.fh16-requires-4
fh16-requires-4 c = call A4 (at7 c.before) (lit< tt)

pub fb16-requires-5 : goal.fb16-requires-5
fb16-requires-5 c = let d = at8 c.before in asks angle24 14 9 true d.here (call A4 d (lit< tt))

pub fb16-requires-6 : goal.fb16-requires-6
fb16-requires-6 c = let d = at9 c.before in asks angle72 10 13 true d.here (call A4 d (lit< tt))
