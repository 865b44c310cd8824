-- `narrow_adst::adst8_first` meets its contract: its calls are the steps, one after the other.
use mathlib.Core.Path.{◌≡◌, refl, sym, ap, ◌∙◌, subst}
use mathlib.Core.Bool.{true}
use mathlib.Core.List.{List, [], ◌∷◌}
use Prim.Native.Nat.{ℕ}
use lib.Dec.{lit<}
use lib.IntN.{pos}
use Rattle.whole.specs.Inner.{Ok}
use Rattle.whole.specs.Steps.{run, each}
use Rattle.steps.specs.Step.{A4}
use Rattle.steps.specs.Step2.{Step2, on, SB, SH, step2}
use Rattle.adst.specs.Inner.{arrays}
use Rattle.narrow.specs.Inner.{Fine216}
use Rattle.narrow.proofs.Angles.{does_S, turns, angle6, angle14, angle22, angle30}
use Rattle.flat.proofs.Straight.{Done, begin, call, next, end}
use Rattle.narrow_adst.specs.Inner.{first8}
use Rattle.narrow_adst.proofs.adst8_first.Goals as goal
use Rattle.narrow_adst.proofs.adst8_first.Goals.{After-fsb16, After-fsb16-2, After-fsb16-3, After-fsb16-4, After-fsh16, After-fsh16-2, After-fsh16-3, After-fsh16-4, Start}

abbrev steps : List Step2
steps =
    SB 0 1 (pos 30) true ∷ SB 2 3 (pos 22) true ∷ SB 4 5 (pos 14) true ∷ SB 6 7 (pos 6) true ∷ SH 0 4 ∷ SH 1 5 ∷ SH 2 6 ∷ SH 3 7 ∷ []

all : first8 ≡ steps
unfolding first8 each
all = refl

-- after k calls
abbrev At : ℕ → Type 0
At k = Done step2 Fine216 steps k

abbrev at0 : Start → At 0
at0 c = begin (subst (λ (ss : List Step2). Ok step2 Fine216 ss (arrays c.args.t.now c.args.s.now)) all c.requires)

abbrev at1 : After-fsb16 → At 1
at1 c = let d = at0 c.before.before in next (on A4) d (lit< tt) (does_S angle30 0 1 true d.here c.fsb16.ensures.made)

abbrev at2 : After-fsb16-2 → At 2
at2 c = let d = at1 c.before.before in next (on A4) d (lit< tt) (does_S angle22 2 3 true d.here c.fsb16-2.ensures.made)

abbrev at3 : After-fsb16-3 → At 3
at3 c = let d = at2 c.before.before in next (on A4) d (lit< tt) (does_S angle14 4 5 true d.here c.fsb16-3.ensures.made)

abbrev at4 : After-fsb16-4 → At 4
at4 c = let d = at3 c.before.before in next (on A4) d (lit< tt) (does_S angle6 6 7 true d.here c.fsb16-4.ensures.made)

abbrev at5 : After-fsh16 → At 5
at5 c = next (on A4) (at4 c.before.before) (lit< tt) c.fsh16.ensures

abbrev at6 : After-fsh16-2 → At 6
at6 c = next (on A4) (at5 c.before.before) (lit< tt) c.fsh16-2.ensures

abbrev at7 : After-fsh16-3 → At 7
at7 c = next (on A4) (at6 c.before.before) (lit< tt) c.fsh16-3.ensures

abbrev at8 : After-fsh16-4 → At 8
at8 c = next (on A4) (at7 c.before.before) (lit< tt) c.fsh16-4.ensures

pub returns : goal.returns
returns c = end (at8 c) refl ∙ ap (λ (ss : List Step2). run step2 ss (at8 c).start) (sym all)

pub fsb16-requires : goal.fsb16-requires
fsb16-requires c = (lit< tt, lit< tt, turns angle30 (lit< tt) (lit< tt))

pub fsb16-requires-2 : goal.fsb16-requires-2
fsb16-requires-2 c = (lit< tt, lit< tt, turns angle22 (lit< tt) (lit< tt))

pub fsb16-requires-3 : goal.fsb16-requires-3
fsb16-requires-3 c = (lit< tt, lit< tt, turns angle14 (lit< tt) (lit< tt))

pub fsb16-requires-4 : goal.fsb16-requires-4
fsb16-requires-4 c = (lit< tt, lit< tt, turns angle6 (lit< tt) (lit< tt))

pub fsh16-requires : goal.fsh16-requires
fsh16-requires c = call (on A4) (at4 c.before) (lit< tt)

pub fsh16-requires-2 : goal.fsh16-requires-2
fsh16-requires-2 c = call (on A4) (at5 c.before) (lit< tt)

pub fsh16-requires-3 : goal.fsh16-requires-3
fsh16-requires-3 c = call (on A4) (at6 c.before) (lit< tt)

pub fsh16-requires-4 : goal.fsh16-requires-4
fsh16-requires-4 c = call (on A4) (at7 c.before) (lit< tt)
