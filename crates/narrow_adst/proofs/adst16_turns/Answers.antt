-- `narrow_adst::adst16_turns` meets its contract: its calls are the steps, one after the other.
use mathlib.Core.Path.{◌≡◌, refl, sym, ap, ◌∙◌, subst}
use mathlib.Core.Bool.{true}
use mathlib.Core.List.{List, [], ◌∷◌}
use Prim.Native.Nat.{ℕ}
use lib.Dec.{lit<}
use lib.IntN.{pos}
use Rattle.whole.specs.Inner.{Ok}
use Rattle.whole.specs.Steps.{run, each}
use Rattle.steps.specs.Step.{A4}
use Rattle.steps.specs.Step2.{Step2, on, SB, step2}
use Rattle.adst.specs.Inner.{arrays}
use Rattle.narrow.specs.Inner.{Fine216}
use Rattle.narrow.proofs.Angles.{does_S, turns, angle3, angle7, angle11, angle15, angle19, angle23, angle27, angle31}
use Rattle.flat.proofs.Straight.{Done, begin, next, end}
use Rattle.narrow_adst.specs.Inner.{turns16}
use Rattle.narrow_adst.proofs.adst16_turns.Goals as goal
use Rattle.narrow_adst.proofs.adst16_turns.Goals.{After-fsb16, After-fsb16-2, After-fsb16-3, After-fsb16-4, After-fsb16-5, After-fsb16-6, After-fsb16-7, After-fsb16-8, Start}

abbrev steps : List Step2
steps =
    SB 0 1 (pos 31) true ∷ SB 2 3 (pos 27) true ∷ SB 4 5 (pos 23) true ∷ SB 6 7 (pos 19) true ∷ SB 8 9 (pos 15) true ∷ SB 10 11 (pos 11) true ∷
    SB 12 13 (pos 7) true ∷ SB 14 15 (pos 3) true ∷ []

all : turns16 ≡ steps
unfolding turns16 each
all = refl

-- after k calls
abbrev At : ℕ → Type 0
At k = Done step2 Fine216 steps k

abbrev at0 : Start → At 0
at0 c = begin (subst (λ (ss : List Step2). Ok step2 Fine216 ss (arrays c.args.t.now c.args.s.now)) all c.requires)

abbrev at1 : After-fsb16 → At 1
at1 c = let d = at0 c.before.before in next (on A4) d (lit< tt) (does_S angle31 0 1 true d.here c.fsb16.ensures.made)

abbrev at2 : After-fsb16-2 → At 2
at2 c = let d = at1 c.before.before in next (on A4) d (lit< tt) (does_S angle27 2 3 true d.here c.fsb16-2.ensures.made)

abbrev at3 : After-fsb16-3 → At 3
at3 c = let d = at2 c.before.before in next (on A4) d (lit< tt) (does_S angle23 4 5 true d.here c.fsb16-3.ensures.made)

abbrev at4 : After-fsb16-4 → At 4
at4 c = let d = at3 c.before.before in next (on A4) d (lit< tt) (does_S angle19 6 7 true d.here c.fsb16-4.ensures.made)

abbrev at5 : After-fsb16-5 → At 5
at5 c = let d = at4 c.before.before in next (on A4) d (lit< tt) (does_S angle15 8 9 true d.here c.fsb16-5.ensures.made)

abbrev at6 : After-fsb16-6 → At 6
at6 c = let d = at5 c.before.before in next (on A4) d (lit< tt) (does_S angle11 10 11 true d.here c.fsb16-6.ensures.made)

abbrev at7 : After-fsb16-7 → At 7
at7 c = let d = at6 c.before.before in next (on A4) d (lit< tt) (does_S angle7 12 13 true d.here c.fsb16-7.ensures.made)

abbrev at8 : After-fsb16-8 → At 8
at8 c = let d = at7 c.before.before in next (on A4) d (lit< tt) (does_S angle3 14 15 true d.here c.fsb16-8.ensures.made)

pub returns : goal.returns
returns c = end (at8 c) refl ∙ ap (λ (ss : List Step2). run step2 ss (at8 c).start) (sym all)

pub fsb16-requires : goal.fsb16-requires
fsb16-requires c = (lit< tt, lit< tt, turns angle31 (lit< tt) (lit< tt))

pub fsb16-requires-2 : goal.fsb16-requires-2
fsb16-requires-2 c = (lit< tt, lit< tt, turns angle27 (lit< tt) (lit< tt))

pub fsb16-requires-3 : goal.fsb16-requires-3
fsb16-requires-3 c = (lit< tt, lit< tt, turns angle23 (lit< tt) (lit< tt))

pub fsb16-requires-4 : goal.fsb16-requires-4
fsb16-requires-4 c = (lit< tt, lit< tt, turns angle19 (lit< tt) (lit< tt))

pub fsb16-requires-5 : goal.fsb16-requires-5
fsb16-requires-5 c = (lit< tt, lit< tt, turns angle15 (lit< tt) (lit< tt))

pub fsb16-requires-6 : goal.fsb16-requires-6
fsb16-requires-6 c = (lit< tt, lit< tt, turns angle11 (lit< tt) (lit< tt))

pub fsb16-requires-7 : goal.fsb16-requires-7
fsb16-requires-7 c = (lit< tt, lit< tt, turns angle7 (lit< tt) (lit< tt))

pub fsb16-requires-8 : goal.fsb16-requires-8
fsb16-requires-8 c = (lit< tt, lit< tt, turns angle3 (lit< tt) (lit< tt))
