-- `flat_dct::dct_level5` meets its contract: its calls are the steps, one after the other.
use mathlib.Core.Path.{◌≡◌, refl, sym, ap, ◌∙◌, subst}
use mathlib.Core.Bool.{true, false}
use mathlib.Core.List.{List, [], ◌∷◌}
use Prim.Native.Nat.{ℕ, ◌^◌}
use lib.Dec.{lit<}
use lib.IntN.{pos}
use Rattle.whole.specs.Steps.{run, each, when}
use Rattle.whole.specs.Inner.{Ok}
use Rattle.primitives.specs.Brev.{Brev}
use Rattle.steps.specs.Step.{Step, Bf, Hd, A4, step}
use Rattle.steps.specs.Inner.{Fine}
use Rattle.dct.specs.Dct.{tail, tail_at, steps2, steps3, steps4, steps5, steps6, steps7}
use Rattle.flat.proofs.Straight.{Done, begin, call, next, end}
use Rattle.flat_dct.proofs.dct_level5.Goals as goal
use Rattle.flat_dct.proofs.dct_level5.Goals.{After-fb, After-fb-10, After-fb-11, After-fb-12, After-fb-13, After-fb-14, After-fb-15, After-fb-16, After-fb-17, After-fb-18, After-fb-19, After-fb-2, After-fb-20, After-fb-3, After-fb-4, After-fb-5, After-fb-6, After-fb-7, After-fb-8, After-fb-9, After-fh, After-fh-10, After-fh-11, After-fh-12, After-fh-13, After-fh-14, After-fh-15, After-fh-16, After-fh-17, After-fh-18, After-fh-19, After-fh-2, After-fh-20, After-fh-21, After-fh-22, After-fh-23, After-fh-24, After-fh-25, After-fh-26, After-fh-27, After-fh-28, After-fh-29, After-fh-3, After-fh-30, After-fh-31, After-fh-32, After-fh-33, After-fh-34, After-fh-35, After-fh-36, After-fh-37, After-fh-38, After-fh-39, After-fh-4, After-fh-40, After-fh-5, After-fh-6, After-fh-7, After-fh-8, After-fh-9, Start}

abbrev steps : List Step
steps =
    Bf 16 31 (pos 31) false ∷ Bf 17 30 (pos 15) false ∷ Bf 18 29 (pos 23) false ∷ Bf 19 28 (pos 7) false ∷ Bf 20 27 (pos 27) false ∷
    Bf 21 26 (pos 11) false ∷ Bf 22 25 (pos 19) false ∷ Bf 23 24 (pos 3) false ∷ Hd 16 17 false ∷ Hd 18 19 true ∷ Hd 20 21 false ∷ Hd 22 23 true ∷
    Hd 24 25 false ∷ Hd 26 27 true ∷ Hd 28 29 false ∷ Hd 30 31 true ∷ Bf 30 17 (pos 28) true ∷ Bf 22 25 (pos 84) true ∷ Bf 26 21 (pos 12) true ∷
    Bf 18 29 (pos 68) true ∷ Hd 16 19 false ∷ Hd 20 23 true ∷ Hd 24 27 false ∷ Hd 28 31 true ∷ Hd 17 18 false ∷ Hd 21 22 true ∷ Hd 25 26 false ∷
    Hd 29 30 true ∷ Bf 29 18 (pos 24) true ∷ Bf 21 26 (pos 72) true ∷ Bf 28 19 (pos 24) true ∷ Bf 20 27 (pos 72) true ∷ Hd 16 23 false ∷
    Hd 24 31 true ∷ Hd 17 22 false ∷ Hd 25 30 true ∷ Hd 18 21 false ∷ Hd 26 29 true ∷ Hd 19 20 false ∷ Hd 27 28 true ∷ Bf 27 20 (pos 16) true ∷
    Bf 26 21 (pos 16) true ∷ Bf 25 22 (pos 16) true ∷ Bf 24 23 (pos 16) true ∷ Hd 0 31 false ∷ Hd 1 30 false ∷ Hd 2 29 false ∷ Hd 3 28 false ∷
    Hd 4 27 false ∷ Hd 5 26 false ∷ Hd 6 25 false ∷ Hd 7 24 false ∷ Hd 8 23 false ∷ Hd 9 22 false ∷ Hd 10 21 false ∷ Hd 11 20 false ∷ Hd 12 19 false ∷
    Hd 13 18 false ∷ Hd 14 17 false ∷ Hd 15 16 false ∷ []

all : tail 5 ≡ steps
unfolding tail tail_at steps2 steps3 steps4 steps5 steps6 steps7 each when Brev
all = refl

-- after k calls
abbrev At : ℕ → Type 0
At k = Done step (Fine (2 ^ 46)) steps k

abbrev at0 : Start → At 0
at0 c = begin (subst (λ (ss : List Step). Ok step (Fine (2 ^ 46)) ss c.args.t.now) all c.requires)

abbrev at1 : After-fb → At 1
at1 c = next A4 (at0 c.before.before) (lit< tt) c.fb.ensures

abbrev at2 : After-fb-2 → At 2
at2 c = next A4 (at1 c.before.before) (lit< tt) c.fb-2.ensures

abbrev at3 : After-fb-3 → At 3
at3 c = next A4 (at2 c.before.before) (lit< tt) c.fb-3.ensures

abbrev at4 : After-fb-4 → At 4
at4 c = next A4 (at3 c.before.before) (lit< tt) c.fb-4.ensures

abbrev at5 : After-fb-5 → At 5
at5 c = next A4 (at4 c.before.before) (lit< tt) c.fb-5.ensures

abbrev at6 : After-fb-6 → At 6
at6 c = next A4 (at5 c.before.before) (lit< tt) c.fb-6.ensures

abbrev at7 : After-fb-7 → At 7
at7 c = next A4 (at6 c.before.before) (lit< tt) c.fb-7.ensures

abbrev at8 : After-fb-8 → At 8
at8 c = next A4 (at7 c.before.before) (lit< tt) c.fb-8.ensures

abbrev at9 : After-fh → At 9
at9 c = next A4 (at8 c.before.before) (lit< tt) c.fh.ensures

abbrev at10 : After-fh-2 → At 10
at10 c = next A4 (at9 c.before.before) (lit< tt) c.fh-2.ensures

abbrev at11 : After-fh-3 → At 11
at11 c = next A4 (at10 c.before.before) (lit< tt) c.fh-3.ensures

abbrev at12 : After-fh-4 → At 12
at12 c = next A4 (at11 c.before.before) (lit< tt) c.fh-4.ensures

abbrev at13 : After-fh-5 → At 13
at13 c = next A4 (at12 c.before.before) (lit< tt) c.fh-5.ensures

abbrev at14 : After-fh-6 → At 14
at14 c = next A4 (at13 c.before.before) (lit< tt) c.fh-6.ensures

abbrev at15 : After-fh-7 → At 15
at15 c = next A4 (at14 c.before.before) (lit< tt) c.fh-7.ensures

abbrev at16 : After-fh-8 → At 16
at16 c = next A4 (at15 c.before.before) (lit< tt) c.fh-8.ensures

abbrev at17 : After-fb-9 → At 17
at17 c = next A4 (at16 c.before.before) (lit< tt) c.fb-9.ensures

abbrev at18 : After-fb-10 → At 18
at18 c = next A4 (at17 c.before.before) (lit< tt) c.fb-10.ensures

abbrev at19 : After-fb-11 → At 19
at19 c = next A4 (at18 c.before.before) (lit< tt) c.fb-11.ensures

abbrev at20 : After-fb-12 → At 20
at20 c = next A4 (at19 c.before.before) (lit< tt) c.fb-12.ensures

abbrev at21 : After-fh-9 → At 21
at21 c = next A4 (at20 c.before.before) (lit< tt) c.fh-9.ensures

abbrev at22 : After-fh-10 → At 22
at22 c = next A4 (at21 c.before.before) (lit< tt) c.fh-10.ensures

abbrev at23 : After-fh-11 → At 23
at23 c = next A4 (at22 c.before.before) (lit< tt) c.fh-11.ensures

abbrev at24 : After-fh-12 → At 24
at24 c = next A4 (at23 c.before.before) (lit< tt) c.fh-12.ensures

abbrev at25 : After-fh-13 → At 25
at25 c = next A4 (at24 c.before.before) (lit< tt) c.fh-13.ensures

abbrev at26 : After-fh-14 → At 26
at26 c = next A4 (at25 c.before.before) (lit< tt) c.fh-14.ensures

abbrev at27 : After-fh-15 → At 27
at27 c = next A4 (at26 c.before.before) (lit< tt) c.fh-15.ensures

abbrev at28 : After-fh-16 → At 28
at28 c = next A4 (at27 c.before.before) (lit< tt) c.fh-16.ensures

abbrev at29 : After-fb-13 → At 29
at29 c = next A4 (at28 c.before.before) (lit< tt) c.fb-13.ensures

abbrev at30 : After-fb-14 → At 30
at30 c = next A4 (at29 c.before.before) (lit< tt) c.fb-14.ensures

abbrev at31 : After-fb-15 → At 31
at31 c = next A4 (at30 c.before.before) (lit< tt) c.fb-15.ensures

abbrev at32 : After-fb-16 → At 32
at32 c = next A4 (at31 c.before.before) (lit< tt) c.fb-16.ensures

abbrev at33 : After-fh-17 → At 33
at33 c = next A4 (at32 c.before.before) (lit< tt) c.fh-17.ensures

abbrev at34 : After-fh-18 → At 34
at34 c = next A4 (at33 c.before.before) (lit< tt) c.fh-18.ensures

abbrev at35 : After-fh-19 → At 35
at35 c = next A4 (at34 c.before.before) (lit< tt) c.fh-19.ensures

abbrev at36 : After-fh-20 → At 36
at36 c = next A4 (at35 c.before.before) (lit< tt) c.fh-20.ensures

abbrev at37 : After-fh-21 → At 37
at37 c = next A4 (at36 c.before.before) (lit< tt) c.fh-21.ensures

abbrev at38 : After-fh-22 → At 38
at38 c = next A4 (at37 c.before.before) (lit< tt) c.fh-22.ensures

abbrev at39 : After-fh-23 → At 39
at39 c = next A4 (at38 c.before.before) (lit< tt) c.fh-23.ensures

abbrev at40 : After-fh-24 → At 40
at40 c = next A4 (at39 c.before.before) (lit< tt) c.fh-24.ensures

abbrev at41 : After-fb-17 → At 41
at41 c = next A4 (at40 c.before.before) (lit< tt) c.fb-17.ensures

abbrev at42 : After-fb-18 → At 42
at42 c = next A4 (at41 c.before.before) (lit< tt) c.fb-18.ensures

abbrev at43 : After-fb-19 → At 43
at43 c = next A4 (at42 c.before.before) (lit< tt) c.fb-19.ensures

abbrev at44 : After-fb-20 → At 44
at44 c = next A4 (at43 c.before.before) (lit< tt) c.fb-20.ensures

abbrev at45 : After-fh-25 → At 45
at45 c = next A4 (at44 c.before.before) (lit< tt) c.fh-25.ensures

abbrev at46 : After-fh-26 → At 46
at46 c = next A4 (at45 c.before.before) (lit< tt) c.fh-26.ensures

abbrev at47 : After-fh-27 → At 47
at47 c = next A4 (at46 c.before.before) (lit< tt) c.fh-27.ensures

abbrev at48 : After-fh-28 → At 48
at48 c = next A4 (at47 c.before.before) (lit< tt) c.fh-28.ensures

abbrev at49 : After-fh-29 → At 49
at49 c = next A4 (at48 c.before.before) (lit< tt) c.fh-29.ensures

abbrev at50 : After-fh-30 → At 50
at50 c = next A4 (at49 c.before.before) (lit< tt) c.fh-30.ensures

abbrev at51 : After-fh-31 → At 51
at51 c = next A4 (at50 c.before.before) (lit< tt) c.fh-31.ensures

abbrev at52 : After-fh-32 → At 52
at52 c = next A4 (at51 c.before.before) (lit< tt) c.fh-32.ensures

abbrev at53 : After-fh-33 → At 53
at53 c = next A4 (at52 c.before.before) (lit< tt) c.fh-33.ensures

abbrev at54 : After-fh-34 → At 54
at54 c = next A4 (at53 c.before.before) (lit< tt) c.fh-34.ensures

abbrev at55 : After-fh-35 → At 55
at55 c = next A4 (at54 c.before.before) (lit< tt) c.fh-35.ensures

abbrev at56 : After-fh-36 → At 56
at56 c = next A4 (at55 c.before.before) (lit< tt) c.fh-36.ensures

abbrev at57 : After-fh-37 → At 57
at57 c = next A4 (at56 c.before.before) (lit< tt) c.fh-37.ensures

abbrev at58 : After-fh-38 → At 58
at58 c = next A4 (at57 c.before.before) (lit< tt) c.fh-38.ensures

abbrev at59 : After-fh-39 → At 59
at59 c = next A4 (at58 c.before.before) (lit< tt) c.fh-39.ensures

abbrev at60 : After-fh-40 → At 60
at60 c = next A4 (at59 c.before.before) (lit< tt) c.fh-40.ensures

pub returns : goal.returns
returns c = end (at60 c) refl ∙ ap (λ (ss : List Step). run step ss (at60 c).start) (sym all)

pub fb-requires : goal.fb-requires
fb-requires c = call A4 (at0 c.before) (lit< tt)

pub fb-requires-2 : goal.fb-requires-2
fb-requires-2 c = call A4 (at1 c.before) (lit< tt)

pub fb-requires-3 : goal.fb-requires-3
fb-requires-3 c = call A4 (at2 c.before) (lit< tt)

pub fb-requires-4 : goal.fb-requires-4
fb-requires-4 c = call A4 (at3 c.before) (lit< tt)

pub fb-requires-5 : goal.fb-requires-5
fb-requires-5 c = call A4 (at4 c.before) (lit< tt)

pub fb-requires-6 : goal.fb-requires-6
fb-requires-6 c = call A4 (at5 c.before) (lit< tt)

pub fb-requires-7 : goal.fb-requires-7
fb-requires-7 c = call A4 (at6 c.before) (lit< tt)

pub fb-requires-8 : goal.fb-requires-8
fb-requires-8 c = call A4 (at7 c.before) (lit< tt)

pub fh-requires : goal.fh-requires
fh-requires c = call A4 (at8 c.before) (lit< tt)

pub fh-requires-2 : goal.fh-requires-2
fh-requires-2 c = call A4 (at9 c.before) (lit< tt)

pub fh-requires-3 : goal.fh-requires-3
fh-requires-3 c = call A4 (at10 c.before) (lit< tt)

pub fh-requires-4 : goal.fh-requires-4
fh-requires-4 c = call A4 (at11 c.before) (lit< tt)

pub fh-requires-5 : goal.fh-requires-5
fh-requires-5 c = call A4 (at12 c.before) (lit< tt)

pub fh-requires-6 : goal.fh-requires-6
fh-requires-6 c = call A4 (at13 c.before) (lit< tt)

pub fh-requires-7 : goal.fh-requires-7
fh-requires-7 c = call A4 (at14 c.before) (lit< tt)

pub fh-requires-8 : goal.fh-requires-8
fh-requires-8 c = call A4 (at15 c.before) (lit< tt)

pub fb-requires-9 : goal.fb-requires-9
fb-requires-9 c = call A4 (at16 c.before) (lit< tt)

pub fb-requires-10 : goal.fb-requires-10
fb-requires-10 c = call A4 (at17 c.before) (lit< tt)

pub fb-requires-11 : goal.fb-requires-11
fb-requires-11 c = call A4 (at18 c.before) (lit< tt)

pub fb-requires-12 : goal.fb-requires-12
fb-requires-12 c = call A4 (at19 c.before) (lit< tt)

pub fh-requires-9 : goal.fh-requires-9
fh-requires-9 c = call A4 (at20 c.before) (lit< tt)

pub fh-requires-10 : goal.fh-requires-10
fh-requires-10 c = call A4 (at21 c.before) (lit< tt)

pub fh-requires-11 : goal.fh-requires-11
fh-requires-11 c = call A4 (at22 c.before) (lit< tt)

pub fh-requires-12 : goal.fh-requires-12
fh-requires-12 c = call A4 (at23 c.before) (lit< tt)

pub fh-requires-13 : goal.fh-requires-13
fh-requires-13 c = call A4 (at24 c.before) (lit< tt)

pub fh-requires-14 : goal.fh-requires-14
fh-requires-14 c = call A4 (at25 c.before) (lit< tt)

pub fh-requires-15 : goal.fh-requires-15
fh-requires-15 c = call A4 (at26 c.before) (lit< tt)

pub fh-requires-16 : goal.fh-requires-16
fh-requires-16 c = call A4 (at27 c.before) (lit< tt)

pub fb-requires-13 : goal.fb-requires-13
fb-requires-13 c = call A4 (at28 c.before) (lit< tt)

pub fb-requires-14 : goal.fb-requires-14
fb-requires-14 c = call A4 (at29 c.before) (lit< tt)

pub fb-requires-15 : goal.fb-requires-15
fb-requires-15 c = call A4 (at30 c.before) (lit< tt)

pub fb-requires-16 : goal.fb-requires-16
fb-requires-16 c = call A4 (at31 c.before) (lit< tt)

pub fh-requires-17 : goal.fh-requires-17
fh-requires-17 c = call A4 (at32 c.before) (lit< tt)

pub fh-requires-18 : goal.fh-requires-18
fh-requires-18 c = call A4 (at33 c.before) (lit< tt)

pub fh-requires-19 : goal.fh-requires-19
fh-requires-19 c = call A4 (at34 c.before) (lit< tt)

pub fh-requires-20 : goal.fh-requires-20
fh-requires-20 c = call A4 (at35 c.before) (lit< tt)

pub fh-requires-21 : goal.fh-requires-21
fh-requires-21 c = call A4 (at36 c.before) (lit< tt)

pub fh-requires-22 : goal.fh-requires-22
fh-requires-22 c = call A4 (at37 c.before) (lit< tt)

pub fh-requires-23 : goal.fh-requires-23
fh-requires-23 c = call A4 (at38 c.before) (lit< tt)

pub fh-requires-24 : goal.fh-requires-24
fh-requires-24 c = call A4 (at39 c.before) (lit< tt)

pub fb-requires-17 : goal.fb-requires-17
fb-requires-17 c = call A4 (at40 c.before) (lit< tt)

pub fb-requires-18 : goal.fb-requires-18
fb-requires-18 c = call A4 (at41 c.before) (lit< tt)

pub fb-requires-19 : goal.fb-requires-19
fb-requires-19 c = call A4 (at42 c.before) (lit< tt)

pub fb-requires-20 : goal.fb-requires-20
fb-requires-20 c = call A4 (at43 c.before) (lit< tt)

pub fh-requires-25 : goal.fh-requires-25
fh-requires-25 c = call A4 (at44 c.before) (lit< tt)

pub fh-requires-26 : goal.fh-requires-26
fh-requires-26 c = call A4 (at45 c.before) (lit< tt)

pub fh-requires-27 : goal.fh-requires-27
fh-requires-27 c = call A4 (at46 c.before) (lit< tt)

pub fh-requires-28 : goal.fh-requires-28
fh-requires-28 c = call A4 (at47 c.before) (lit< tt)

pub fh-requires-29 : goal.fh-requires-29
fh-requires-29 c = call A4 (at48 c.before) (lit< tt)

pub fh-requires-30 : goal.fh-requires-30
fh-requires-30 c = call A4 (at49 c.before) (lit< tt)

pub fh-requires-31 : goal.fh-requires-31
fh-requires-31 c = call A4 (at50 c.before) (lit< tt)

pub fh-requires-32 : goal.fh-requires-32
fh-requires-32 c = call A4 (at51 c.before) (lit< tt)

pub fh-requires-33 : goal.fh-requires-33
fh-requires-33 c = call A4 (at52 c.before) (lit< tt)

pub fh-requires-34 : goal.fh-requires-34
fh-requires-34 c = call A4 (at53 c.before) (lit< tt)

pub fh-requires-35 : goal.fh-requires-35
fh-requires-35 c = call A4 (at54 c.before) (lit< tt)

pub fh-requires-36 : goal.fh-requires-36
fh-requires-36 c = call A4 (at55 c.before) (lit< tt)

pub fh-requires-37 : goal.fh-requires-37
fh-requires-37 c = call A4 (at56 c.before) (lit< tt)

pub fh-requires-38 : goal.fh-requires-38
fh-requires-38 c = call A4 (at57 c.before) (lit< tt)

pub fh-requires-39 : goal.fh-requires-39
fh-requires-39 c = call A4 (at58 c.before) (lit< tt)

pub fh-requires-40 : goal.fh-requires-40
fh-requires-40 c = call A4 (at59 c.before) (lit< tt)
