-- `narrow_dct::level3` meets its contract: its calls are the steps, one after the other.
use mathlib.Core.Path.{◌≡◌, refl, sym, ap, ◌∙◌, subst}
use mathlib.Core.Bool.{true, false}
use mathlib.Core.List.{List, [], ◌∷◌}
use Prim.Native.Nat.{ℕ}
use lib.Dec.{lit<}
use lib.IntN.{pos}
use Rattle.whole.specs.Inner.{Ok}
use Rattle.whole.specs.Steps.{run, each, when}
use Rattle.primitives.specs.Brev.{Brev}
use Rattle.steps.specs.Step.{Step, Bf, Hd, A4, step}
use Rattle.dct.specs.Dct.{tail, tail_at, steps2, steps3, steps4, steps5, steps6, steps7}
use Rattle.narrow.specs.Inner.{Fine16}
use Rattle.narrow.proofs.Angles.{asks, does, angle12, angle16, angle28}
use Rattle.flat.proofs.Straight.{Done, begin, call, next, end}
use Rattle.narrow_dct.proofs.level3.Goals as goal
use Rattle.narrow_dct.proofs.level3.Goals.{After-fb16, After-fb16-2, After-fb16-3, After-fh16, After-fh16-2, After-fh16-3, After-fh16-4, After-fh16-5, After-fh16-6, Start}

abbrev steps : List Step
steps =
    Bf 4 7 (pos 28) false ∷ Bf 5 6 (pos 12) false ∷ Hd 4 5 false ∷ Hd 6 7 true ∷ Bf 6 5 (pos 16) true ∷ Hd 0 7 false ∷ Hd 1 6 false ∷
    Hd 2 5 false ∷ Hd 3 4 false ∷ []

all : tail 3 ≡ steps
unfolding tail tail_at steps2 steps3 steps4 steps5 steps6 steps7 each when Brev
all = refl

-- after k calls
abbrev At : ℕ → Type 0
At k = Done step Fine16 steps k

abbrev at0 : Start → At 0
at0 c = begin (subst (λ (ss : List Step). Ok step Fine16 ss c.args.t.now) all c.requires)

abbrev at1 : After-fb16 → At 1
at1 c = let d = at0 c.before.before in next A4 d (lit< tt) (does angle28 4 7 false d.here c.fb16.ensures)

abbrev at2 : After-fb16-2 → At 2
at2 c = let d = at1 c.before.before in next A4 d (lit< tt) (does angle12 5 6 false d.here c.fb16-2.ensures)

abbrev at3 : After-fh16 → At 3
at3 c = next A4 (at2 c.before.before) (lit< tt) c.fh16.ensures

abbrev at4 : After-fh16-2 → At 4
at4 c = next A4 (at3 c.before.before) (lit< tt) c.fh16-2.ensures

abbrev at5 : After-fb16-3 → At 5
at5 c = let d = at4 c.before.before in next A4 d (lit< tt) (does angle16 6 5 true d.here c.fb16-3.ensures)

abbrev at6 : After-fh16-3 → At 6
at6 c = next A4 (at5 c.before.before) (lit< tt) c.fh16-3.ensures

abbrev at7 : After-fh16-4 → At 7
at7 c = next A4 (at6 c.before.before) (lit< tt) c.fh16-4.ensures

abbrev at8 : After-fh16-5 → At 8
at8 c = next A4 (at7 c.before.before) (lit< tt) c.fh16-5.ensures

abbrev at9 : After-fh16-6 → At 9
at9 c = next A4 (at8 c.before.before) (lit< tt) c.fh16-6.ensures

pub returns : goal.returns
returns c = end (at9 c) refl ∙ ap (λ (ss : List Step). run step ss (at9 c).start) (sym all)

pub fb16-requires : goal.fb16-requires
fb16-requires c = let d = at0 c.before in asks angle28 4 7 false d.here (call A4 d (lit< tt))

pub fb16-requires-2 : goal.fb16-requires-2
fb16-requires-2 c = let d = at1 c.before in asks angle12 5 6 false d.here (call A4 d (lit< tt))

pub fh16-requires : goal.fh16-requires
fh16-requires c = call A4 (at2 c.before) (lit< tt)

pub fh16-requires-2 : goal.fh16-requires-2
fh16-requires-2 c = call A4 (at3 c.before) (lit< tt)

pub fb16-requires-3 : goal.fb16-requires-3
fb16-requires-3 c = let d = at4 c.before in asks angle16 6 5 true d.here (call A4 d (lit< tt))

pub fh16-requires-3 : goal.fh16-requires-3
fh16-requires-3 c = call A4 (at5 c.before) (lit< tt)

pub fh16-requires-4 : goal.fh16-requires-4
fh16-requires-4 c = call A4 (at6 c.before) (lit< tt)

pub fh16-requires-5 : goal.fh16-requires-5
fh16-requires-5 c = call A4 (at7 c.before) (lit< tt)

pub fh16-requires-6 : goal.fh16-requires-6
fh16-requires-6 c = call A4 (at8 c.before) (lit< tt)
