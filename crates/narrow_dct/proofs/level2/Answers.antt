-- `narrow_dct::level2` meets its contract: its calls are the steps, one after the other.
use mathlib.Core.Path.{◌≡◌, refl, sym, ap, ◌∙◌, subst}
use mathlib.Core.Bool.{true, false}
use mathlib.Core.List.{List, [], ◌∷◌}
use Prim.Native.Nat.{ℕ}
use lib.Dec.{lit<}
use lib.IntN.{pos}
use Rattle.whole.specs.Inner.{Ok}
use Rattle.whole.specs.Steps.{run, each, when}
use Rattle.primitives.specs.Brev.{Brev}
use Rattle.steps.specs.Step.{Step, Bf, Hd, A4, step}
use Rattle.dct.specs.Dct.{dct_steps, tail, tail_at, steps2, steps3, steps4, steps5, steps6, steps7}
use Rattle.narrow.specs.Inner.{Fine16}
use Rattle.narrow.proofs.Angles.{asks, does, angle16, angle24}
use Rattle.flat.proofs.Straight.{Done, begin, call, next, end}
use Rattle.narrow_dct.proofs.level2.Goals as goal
use Rattle.narrow_dct.proofs.level2.Goals.{After-fb16, After-fb16-2, After-fh16, After-fh16-2, Start}

abbrev steps : List Step
steps =
    Bf 0 1 (pos 16) true ∷ Bf 2 3 (pos 24) false ∷ Hd 0 3 false ∷ Hd 1 2 false ∷ []

all : dct_steps 2 ≡ steps
unfolding dct_steps tail tail_at steps2 steps3 steps4 steps5 steps6 steps7 each when Brev
all = refl

-- after k calls
abbrev At : ℕ → Type 0
At k = Done step Fine16 steps k

abbrev at0 : Start → At 0
at0 c = begin (subst (λ (ss : List Step). Ok step Fine16 ss c.args.t.now) all c.requires)

abbrev at1 : After-fb16 → At 1
at1 c = let d = at0 c.before.before in next A4 d (lit< tt) (does angle16 0 1 true d.here c.fb16.ensures)

abbrev at2 : After-fb16-2 → At 2
at2 c = let d = at1 c.before.before in next A4 d (lit< tt) (does angle24 2 3 false d.here c.fb16-2.ensures)

abbrev at3 : After-fh16 → At 3
at3 c = next A4 (at2 c.before.before) (lit< tt) c.fh16.ensures

abbrev at4 : After-fh16-2 → At 4
at4 c = next A4 (at3 c.before.before) (lit< tt) c.fh16-2.ensures

pub returns : goal.returns
returns c = end (at4 c) refl ∙ ap (λ (ss : List Step). run step ss (at4 c).start) (sym all)

pub fb16-requires : goal.fb16-requires
fb16-requires c = let d = at0 c.before in asks angle16 0 1 true d.here (call A4 d (lit< tt))

pub fb16-requires-2 : goal.fb16-requires-2
fb16-requires-2 c = let d = at1 c.before in asks angle24 2 3 false d.here (call A4 d (lit< tt))

pub fh16-requires : goal.fh16-requires
fh16-requires c = call A4 (at2 c.before) (lit< tt)

pub fh16-requires-2 : goal.fh16-requires-2
fh16-requires-2 c = call A4 (at3 c.before) (lit< tt)
