-- `flat_dct::dct_level2` meets its contract: its calls are the steps, one after the other.
use mathlib.Core.Path.{◌≡◌, refl, sym, ap, ◌∙◌, subst}
use mathlib.Core.Bool.{false}
use mathlib.Core.List.{List, [], ◌∷◌}
use Prim.Native.Nat.{ℕ, ◌^◌}
use lib.Dec.{lit<}
use lib.IntN.{pos}
use Rattle.whole.specs.Steps.{run, each, when}
use Rattle.whole.specs.Inner.{Ok}
use Rattle.primitives.specs.Brev.{Brev}
use Rattle.steps.specs.Step.{Step, Bf, Hd, A4, step}
use Rattle.steps.specs.Inner.{Fine}
use Rattle.dct.specs.Dct.{tail, tail_at, steps2, steps3, steps4, steps5, steps6, steps7}
use Rattle.flat.proofs.Straight.{Done, begin, call, next, end}
use Rattle.flat_dct.proofs.dct_level2.Goals as goal
use Rattle.flat_dct.proofs.dct_level2.Goals.{After-fb, After-fh, After-fh-2, Start}

abbrev steps : List Step
steps =
    Bf 2 3 (pos 24) false ∷ Hd 0 3 false ∷ Hd 1 2 false ∷ []

all : tail 2 ≡ steps
unfolding tail tail_at steps2 steps3 steps4 steps5 steps6 steps7 each when Brev
all = refl

-- after k calls
abbrev At : ℕ → Type 0
At k = Done step (Fine (2 ^ 46)) steps k

abbrev at0 : Start → At 0
at0 c = begin (subst (λ (ss : List Step). Ok step (Fine (2 ^ 46)) ss c.args.t.now) all c.requires)

abbrev at1 : After-fb → At 1
at1 c = next A4 (at0 c.before.before) (lit< tt) c.fb.ensures

abbrev at2 : After-fh → At 2
at2 c = next A4 (at1 c.before.before) (lit< tt) c.fh.ensures

abbrev at3 : After-fh-2 → At 3
at3 c = next A4 (at2 c.before.before) (lit< tt) c.fh-2.ensures

pub returns : goal.returns
returns c = end (at3 c) refl ∙ ap (λ (ss : List Step). run step ss (at3 c).start) (sym all)

pub fb-requires : goal.fb-requires
fb-requires c = call A4 (at0 c.before) (lit< tt)

pub fh-requires : goal.fh-requires
fh-requires c = call A4 (at1 c.before) (lit< tt)

pub fh-requires-2 : goal.fh-requires-2
fh-requires-2 c = call A4 (at2 c.before) (lit< tt)
