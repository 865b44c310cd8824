-- `flat_dct::dct_level4` meets its contract: its calls are the steps, one after the other.
use mathlib.Core.Path.{◌≡◌, refl, sym, ap, ◌∙◌, subst}
use mathlib.Core.Bool.{true, false}
use mathlib.Core.List.{List, [], ◌∷◌}
use Prim.Native.Nat.{ℕ, ◌^◌}
use lib.Dec.{lit<}
use lib.IntN.{pos}
use Rattle.whole.specs.Steps.{run, each, when}
use Rattle.whole.specs.Inner.{Ok}
use Rattle.primitives.specs.Brev.{Brev}
use Rattle.steps.specs.Step.{Step, Bf, Hd, A4, step}
use Rattle.steps.specs.Inner.{Fine}
use Rattle.dct.specs.Dct.{tail, tail_at, steps2, steps3, steps4, steps5, steps6, steps7}
use Rattle.flat.proofs.Straight.{Done, begin, call, next, end}
use Rattle.flat_dct.proofs.dct_level4.Goals as goal
use Rattle.flat_dct.proofs.dct_level4.Goals.{After-fb, After-fb-2, After-fb-3, After-fb-4, After-fb-5, After-fb-6, After-fb-7, After-fb-8, After-fh, After-fh-10, After-fh-11, After-fh-12, After-fh-13, After-fh-14, After-fh-15, After-fh-16, After-fh-2, After-fh-3, After-fh-4, After-fh-5, After-fh-6, After-fh-7, After-fh-8, After-fh-9, Start}

abbrev steps : List Step
steps =
    Bf 8 15 (pos 30) false ∷ Bf 9 14 (pos 14) false ∷ Bf 10 13 (pos 22) false ∷ Bf 11 12 (pos 6) false ∷ Hd 8 9 false ∷ Hd 10 11 true ∷
    Hd 12 13 false ∷ Hd 14 15 true ∷ Bf 14 9 (pos 24) true ∷ Bf 10 13 (pos 72) true ∷ Hd 8 11 false ∷ Hd 12 15 true ∷ Hd 9 10 false ∷ Hd 13 14 true ∷
    Bf 13 10 (pos 16) true ∷ Bf 12 11 (pos 16) true ∷ Hd 0 15 false ∷ Hd 1 14 false ∷ Hd 2 13 false ∷ Hd 3 12 false ∷ Hd 4 11 false ∷ Hd 5 10 false ∷
    Hd 6 9 false ∷ Hd 7 8 false ∷ []

all : tail 4 ≡ steps
unfolding tail tail_at steps2 steps3 steps4 steps5 steps6 steps7 each when Brev
all = refl

-- after k calls
abbrev At : ℕ → Type 0
At k = Done step (Fine (2 ^ 46)) steps k

abbrev at0 : Start → At 0
at0 c = begin (subst (λ (ss : List Step). Ok step (Fine (2 ^ 46)) ss c.args.t.now) all c.requires)

abbrev at1 : After-fb → At 1
at1 c = next A4 (at0 c.before.before) (lit< tt) c.fb.ensures

abbrev at2 : After-fb-2 → At 2
at2 c = next A4 (at1 c.before.before) (lit< tt) c.fb-2.ensures

abbrev at3 : After-fb-3 → At 3
at3 c = next A4 (at2 c.before.before) (lit< tt) c.fb-3.ensures

abbrev at4 : After-fb-4 → At 4
at4 c = next A4 (at3 c.before.before) (lit< tt) c.fb-4.ensures

abbrev at5 : After-fh → At 5
at5 c = next A4 (at4 c.before.before) (lit< tt) c.fh.ensures

abbrev at6 : After-fh-2 → At 6
at6 c = next A4 (at5 c.before.before) (lit< tt) c.fh-2.ensures

abbrev at7 : After-fh-3 → At 7
at7 c = next A4 (at6 c.before.before) (lit< tt) c.fh-3.ensures

abbrev at8 : After-fh-4 → At 8
at8 c = next A4 (at7 c.before.before) (lit< tt) c.fh-4.ensures

abbrev at9 : After-fb-5 → At 9
at9 c = next A4 (at8 c.before.before) (lit< tt) c.fb-5.ensures

abbrev at10 : After-fb-6 → At 10
at10 c = next A4 (at9 c.before.before) (lit< tt) c.fb-6.ensures

abbrev at11 : After-fh-5 → At 11
at11 c = next A4 (at10 c.before.before) (lit< tt) c.fh-5.ensures

abbrev at12 : After-fh-6 → At 12
at12 c = next A4 (at11 c.before.before) (lit< tt) c.fh-6.ensures

abbrev at13 : After-fh-7 → At 13
at13 c = next A4 (at12 c.before.before) (lit< tt) c.fh-7.ensures

abbrev at14 : After-fh-8 → At 14
at14 c = next A4 (at13 c.before.before) (lit< tt) c.fh-8.ensures

abbrev at15 : After-fb-7 → At 15
at15 c = next A4 (at14 c.before.before) (lit< tt) c.fb-7.ensures

abbrev at16 : After-fb-8 → At 16
at16 c = next A4 (at15 c.before.before) (lit< tt) c.fb-8.ensures

abbrev at17 : After-fh-9 → At 17
at17 c = next A4 (at16 c.before.before) (lit< tt) c.fh-9.ensures

abbrev at18 : After-fh-10 → At 18
at18 c = next A4 (at17 c.before.before) (lit< tt) c.fh-10.ensures

abbrev at19 : After-fh-11 → At 19
at19 c = next A4 (at18 c.before.before) (lit< tt) c.fh-11.ensures

abbrev at20 : After-fh-12 → At 20
at20 c = next A4 (at19 c.before.before) (lit< tt) c.fh-12.ensures

abbrev at21 : After-fh-13 → At 21
at21 c = next A4 (at20 c.before.before) (lit< tt) c.fh-13.ensures

abbrev at22 : After-fh-14 → At 22
at22 c = next A4 (at21 c.before.before) (lit< tt) c.fh-14.ensures

abbrev at23 : After-fh-15 → At 23
at23 c = next A4 (at22 c.before.before) (lit< tt) c.fh-15.ensures

abbrev at24 : After-fh-16 → At 24
at24 c = next A4 (at23 c.before.before) (lit< tt) c.fh-16.ensures

pub returns : goal.returns
returns c = end (at24 c) refl ∙ ap (λ (ss : List Step). run step ss (at24 c).start) (sym all)

pub fb-requires : goal.fb-requires
fb-requires c = call A4 (at0 c.before) (lit< tt)

pub fb-requires-2 : goal.fb-requires-2
fb-requires-2 c = call A4 (at1 c.before) (lit< tt)

pub fb-requires-3 : goal.fb-requires-3
fb-requires-3 c = call A4 (at2 c.before) (lit< tt)

pub fb-requires-4 : goal.fb-requires-4
fb-requires-4 c = call A4 (at3 c.before) (lit< tt)

pub fh-requires : goal.fh-requires
fh-requires c = call A4 (at4 c.before) (lit< tt)

pub fh-requires-2 : goal.fh-requires-2
fh-requires-2 c = call A4 (at5 c.before) (lit< tt)

pub fh-requires-3 : goal.fh-requires-3
fh-requires-3 c = call A4 (at6 c.before) (lit< tt)

pub fh-requires-4 : goal.fh-requires-4
fh-requires-4 c = call A4 (at7 c.before) (lit< tt)

pub fb-requires-5 : goal.fb-requires-5
fb-requires-5 c = call A4 (at8 c.before) (lit< tt)

pub fb-requires-6 : goal.fb-requires-6
fb-requires-6 c = call A4 (at9 c.before) (lit< tt)

pub fh-requires-5 : goal.fh-requires-5
fh-requires-5 c = call A4 (at10 c.before) (lit< tt)

pub fh-requires-6 : goal.fh-requires-6
fh-requires-6 c = call A4 (at11 c.before) (lit< tt)

pub fh-requires-7 : goal.fh-requires-7
fh-requires-7 c = call A4 (at12 c.before) (lit< tt)

pub fh-requires-8 : goal.fh-requires-8
fh-requires-8 c = call A4 (at13 c.before) (lit< tt)

pub fb-requires-7 : goal.fb-requires-7
fb-requires-7 c = call A4 (at14 c.before) (lit< tt)

pub fb-requires-8 : goal.fb-requires-8
fb-requires-8 c = call A4 (at15 c.before) (lit< tt)

pub fh-requires-9 : goal.fh-requires-9
fh-requires-9 c = call A4 (at16 c.before) (lit< tt)

pub fh-requires-10 : goal.fh-requires-10
fh-requires-10 c = call A4 (at17 c.before) (lit< tt)

pub fh-requires-11 : goal.fh-requires-11
fh-requires-11 c = call A4 (at18 c.before) (lit< tt)

pub fh-requires-12 : goal.fh-requires-12
fh-requires-12 c = call A4 (at19 c.before) (lit< tt)

pub fh-requires-13 : goal.fh-requires-13
fh-requires-13 c = call A4 (at20 c.before) (lit< tt)

pub fh-requires-14 : goal.fh-requires-14
fh-requires-14 c = call A4 (at21 c.before) (lit< tt)

pub fh-requires-15 : goal.fh-requires-15
fh-requires-15 c = call A4 (at22 c.before) (lit< tt)

pub fh-requires-16 : goal.fh-requires-16
fh-requires-16 c = call A4 (at23 c.before) (lit< tt)
