-- `flat_dct::dct_level3` meets its contract: its calls are the steps, one after the other.
use mathlib.Core.Path.{◌≡◌, refl, sym, ap, ◌∙◌, subst}
use mathlib.Core.Bool.{true, false}
use mathlib.Core.List.{List, [], ◌∷◌}
use Prim.Native.Nat.{ℕ, ◌^◌}
use lib.Dec.{lit<}
use lib.IntN.{pos}
use Rattle.whole.specs.Steps.{run, each, when}
use Rattle.whole.specs.Inner.{Ok}
use Rattle.primitives.specs.Brev.{Brev}
use Rattle.steps.specs.Step.{Step, Bf, Hd, A4, step}
use Rattle.steps.specs.Inner.{Fine}
use Rattle.dct.specs.Dct.{tail, tail_at, steps2, steps3, steps4, steps5, steps6, steps7}
use Rattle.flat.proofs.Straight.{Done, begin, call, next, end}
use Rattle.flat_dct.proofs.dct_level3.Goals as goal
use Rattle.flat_dct.proofs.dct_level3.Goals.{After-fb, After-fb-2, After-fb-3, After-fh, After-fh-2, After-fh-3, After-fh-4, After-fh-5, After-fh-6, Start}

abbrev steps : List Step
steps =
    Bf 4 7 (pos 28) false ∷ Bf 5 6 (pos 12) false ∷ Hd 4 5 false ∷ Hd 6 7 true ∷ Bf 6 5 (pos 16) true ∷ Hd 0 7 false ∷ Hd 1 6 false ∷ Hd 2 5 false ∷
    Hd 3 4 false ∷ []

all : tail 3 ≡ steps
unfolding tail tail_at steps2 steps3 steps4 steps5 steps6 steps7 each when Brev
all = refl

-- after k calls
abbrev At : ℕ → Type 0
At k = Done step (Fine (2 ^ 46)) steps k

abbrev at0 : Start → At 0
at0 c = begin (subst (λ (ss : List Step). Ok step (Fine (2 ^ 46)) ss c.args.t.now) all c.requires)

abbrev at1 : After-fb → At 1
at1 c = next A4 (at0 c.before.before) (lit< tt) c.fb.ensures

abbrev at2 : After-fb-2 → At 2
at2 c = next A4 (at1 c.before.before) (lit< tt) c.fb-2.ensures

abbrev at3 : After-fh → At 3
at3 c = next A4 (at2 c.before.before) (lit< tt) c.fh.ensures

abbrev at4 : After-fh-2 → At 4
at4 c = next A4 (at3 c.before.before) (lit< tt) c.fh-2.ensures

abbrev at5 : After-fb-3 → At 5
at5 c = next A4 (at4 c.before.before) (lit< tt) c.fb-3.ensures

abbrev at6 : After-fh-3 → At 6
at6 c = next A4 (at5 c.before.before) (lit< tt) c.fh-3.ensures

abbrev at7 : After-fh-4 → At 7
at7 c = next A4 (at6 c.before.before) (lit< tt) c.fh-4.ensures

abbrev at8 : After-fh-5 → At 8
at8 c = next A4 (at7 c.before.before) (lit< tt) c.fh-5.ensures

abbrev at9 : After-fh-6 → At 9
at9 c = next A4 (at8 c.before.before) (lit< tt) c.fh-6.ensures

pub returns : goal.returns
returns c = end (at9 c) refl ∙ ap (λ (ss : List Step). run step ss (at9 c).start) (sym all)

pub fb-requires : goal.fb-requires
fb-requires c = call A4 (at0 c.before) (lit< tt)

pub fb-requires-2 : goal.fb-requires-2
fb-requires-2 c = call A4 (at1 c.before) (lit< tt)

pub fh-requires : goal.fh-requires
fh-requires c = call A4 (at2 c.before) (lit< tt)

pub fh-requires-2 : goal.fh-requires-2
fh-requires-2 c = call A4 (at3 c.before) (lit< tt)

pub fb-requires-3 : goal.fb-requires-3
fb-requires-3 c = call A4 (at4 c.before) (lit< tt)

pub fh-requires-3 : goal.fh-requires-3
fh-requires-3 c = call A4 (at5 c.before) (lit< tt)

pub fh-requires-4 : goal.fh-requires-4
fh-requires-4 c = call A4 (at6 c.before) (lit< tt)

pub fh-requires-5 : goal.fh-requires-5
fh-requires-5 c = call A4 (at7 c.before) (lit< tt)

pub fh-requires-6 : goal.fh-requires-6
fh-requires-6 c = call A4 (at8 c.before) (lit< tt)
