-- `narrow_dct::level5_turns` meets its contract: its calls are the steps, one after the other.
use mathlib.Core.Path.{◌≡◌, refl, sym, ap, ◌∙◌, subst}
use mathlib.Core.Bool.{false}
use mathlib.Core.List.{List, [], ◌∷◌}
use Prim.Native.Nat.{ℕ}
use lib.Dec.{lit<}
use lib.IntN.{pos}
use Rattle.whole.specs.Inner.{Ok}
use Rattle.whole.specs.Steps.{run, each}
use Rattle.primitives.specs.Brev.{Brev}
use Rattle.steps.specs.Step.{Step, Bf, A4, step}
use Rattle.dct.specs.Dct.{steps2}
use Rattle.narrow.specs.Inner.{Fine16}
use Rattle.narrow.proofs.Angles.{asks, does, angle3, angle7, angle11, angle15, angle19, angle23, angle27, angle31}
use Rattle.flat.proofs.Straight.{Done, begin, call, next, end}
use Rattle.narrow_dct.specs.Inner.{turns5}
use Rattle.narrow_dct.proofs.level5_turns.Goals as goal
use Rattle.narrow_dct.proofs.level5_turns.Goals.{After-fb16, After-fb16-2, After-fb16-3, After-fb16-4, After-fb16-5, After-fb16-6, After-fb16-7, After-fb16-8, Start}

abbrev steps : List Step
steps =
    Bf 16 31 (pos 31) false ∷ Bf 17 30 (pos 15) false ∷ Bf 18 29 (pos 23) false ∷ Bf 19 28 (pos 7) false ∷ Bf 20 27 (pos 27) false ∷
    Bf 21 26 (pos 11) false ∷ Bf 22 25 (pos 19) false ∷ Bf 23 24 (pos 3) false ∷ []

all : turns5 ≡ steps
unfolding turns5 steps2 each Brev
all = refl

-- after k calls
abbrev At : ℕ → Type 0
At k = Done step Fine16 steps k

abbrev at0 : Start → At 0
at0 c = begin (subst (λ (ss : List Step). Ok step Fine16 ss c.args.t.now) all c.requires)

abbrev at1 : After-fb16 → At 1
at1 c = let d = at0 c.before.before in next A4 d (lit< tt) (does angle31 16 31 false d.here c.fb16.ensures)

abbrev at2 : After-fb16-2 → At 2
at2 c = let d = at1 c.before.before in next A4 d (lit< tt) (does angle15 17 30 false d.here c.fb16-2.ensures)

abbrev at3 : After-fb16-3 → At 3
at3 c = let d = at2 c.before.before in next A4 d (lit< tt) (does angle23 18 29 false d.here c.fb16-3.ensures)

abbrev at4 : After-fb16-4 → At 4
at4 c = let d = at3 c.before.before in next A4 d (lit< tt) (does angle7 19 28 false d.here c.fb16-4.ensures)

abbrev at5 : After-fb16-5 → At 5
at5 c = let d = at4 c.before.before in next A4 d (lit< tt) (does angle27 20 27 false d.here c.fb16-5.ensures)

abbrev at6 : After-fb16-6 → At 6
at6 c = let d = at5 c.before.before in next A4 d (lit< tt) (does angle11 21 26 false d.here c.fb16-6.ensures)

abbrev at7 : After-fb16-7 → At 7
at7 c = let d = at6 c.before.before in next A4 d (lit< tt) (does angle19 22 25 false d.here c.fb16-7.ensures)

abbrev at8 : After-fb16-8 → At 8
at8 c = let d = at7 c.before.before in next A4 d (lit< tt) (does angle3 23 24 false d.here c.fb16-8.ensures)

pub returns : goal.returns
returns c = end (at8 c) refl ∙ ap (λ (ss : List Step). run step ss (at8 c).start) (sym all)

pub fb16-requires : goal.fb16-requires
fb16-requires c = let d = at0 c.before in asks angle31 16 31 false d.here (call A4 d (lit< tt))

pub fb16-requires-2 : goal.fb16-requires-2
fb16-requires-2 c = let d = at1 c.before in asks angle15 17 30 false d.here (call A4 d (lit< tt))

pub fb16-requires-3 : goal.fb16-requires-3
fb16-requires-3 c = let d = at2 c.before in asks angle23 18 29 false d.here (call A4 d (lit< tt))

pub fb16-requires-4 : goal.fb16-requires-4
fb16-requires-4 c = let d = at3 c.before in asks angle7 19 28 false d.here (call A4 d (lit< tt))

pub fb16-requires-5 : goal.fb16-requires-5
fb16-requires-5 c = let d = at4 c.before in asks angle27 20 27 false d.here (call A4 d (lit< tt))

pub fb16-requires-6 : goal.fb16-requires-6
fb16-requires-6 c = let d = at5 c.before in asks angle11 21 26 false d.here (call A4 d (lit< tt))

pub fb16-requires-7 : goal.fb16-requires-7
fb16-requires-7 c = let d = at6 c.before in asks angle19 22 25 false d.here (call A4 d (lit< tt))

pub fb16-requires-8 : goal.fb16-requires-8
fb16-requires-8 c = let d = at7 c.before in asks angle3 23 24 false d.here (call A4 d (lit< tt))
