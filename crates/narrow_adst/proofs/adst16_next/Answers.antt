-- `narrow_adst::adst16_next` meets its contract: its calls are the steps, one after the other.
use mathlib.Core.Path.{◌≡◌, refl, sym, ap, ◌∙◌, subst}
use mathlib.Core.Bool.{true, false}
use mathlib.Core.List.{List, [], ◌∷◌}
use Prim.Native.Nat.{ℕ}
use lib.Dec.{lit<}
use lib.IntN.{pos, negsuc}
use Rattle.whole.specs.Inner.{Ok}
use Rattle.whole.specs.Steps.{run, each}
use Rattle.steps.specs.Step.{Hd, A4}
use Rattle.steps.specs.Step2.{Step2, on, SB, SH, step2}
use Rattle.adst.specs.Inner.{arrays}
use Rattle.adst.specs.Adst.{on_t}
use Rattle.narrow.specs.Inner.{Fine216}
use Rattle.narrow.proofs.Angles.{does_S, turns, angle_back20, angle_back4, angle12, angle28}
use Rattle.flat.proofs.Straight.{Done, begin, call, next, end}
use Rattle.flat.proofs.Arrays.{next_T}
use Rattle.narrow_adst.specs.Inner.{next16}
use Rattle.narrow_adst.proofs.adst16_next.Goals as goal
use Rattle.narrow_adst.proofs.adst16_next.Goals.{After-fh16, After-fh16-2, After-fh16-3, After-fh16-4, After-fsb16, After-fsb16-2, After-fsb16-3, After-fsb16-4, After-fsh16, After-fsh16-2, After-fsh16-3, After-fsh16-4, Start}

abbrev steps : List Step2
steps =
    SB 8 9 (pos 28) true ∷ SB 10 11 (pos 12) true ∷ SB 12 13 (negsuc 3) true ∷ SB 14 15 (negsuc 19) true ∷ SH 8 12 ∷ SH 9 13 ∷ SH 10 14 ∷
    SH 11 15 ∷ on (Hd 0 4 false) ∷ on (Hd 1 5 false) ∷ on (Hd 2 6 false) ∷ on (Hd 3 7 false) ∷ []

all : next16 ≡ steps
unfolding next16 on_t each
all = refl

-- after k calls
abbrev At : ℕ → Type 0
At k = Done step2 Fine216 steps k

abbrev at0 : Start → At 0
at0 c = begin (subst (λ (ss : List Step2). Ok step2 Fine216 ss (arrays c.args.t.now c.args.s.now)) all c.requires)

abbrev at1 : After-fsb16 → At 1
at1 c = let d = at0 c.before.before in next (on A4) d (lit< tt) (does_S angle28 8 9 true d.here c.fsb16.ensures.made)

abbrev at2 : After-fsb16-2 → At 2
at2 c = let d = at1 c.before.before in next (on A4) d (lit< tt) (does_S angle12 10 11 true d.here c.fsb16-2.ensures.made)

abbrev at3 : After-fsb16-3 → At 3
at3 c = let d = at2 c.before.before in next (on A4) d (lit< tt) (does_S angle_back4 12 13 true d.here c.fsb16-3.ensures.made)

abbrev at4 : After-fsb16-4 → At 4
at4 c = let d = at3 c.before.before in next (on A4) d (lit< tt) (does_S angle_back20 14 15 true d.here c.fsb16-4.ensures.made)

abbrev at5 : After-fsh16 → At 5
at5 c = next (on A4) (at4 c.before.before) (lit< tt) c.fsh16.ensures

abbrev at6 : After-fsh16-2 → At 6
at6 c = next (on A4) (at5 c.before.before) (lit< tt) c.fsh16-2.ensures

abbrev at7 : After-fsh16-3 → At 7
at7 c = next (on A4) (at6 c.before.before) (lit< tt) c.fsh16-3.ensures

abbrev at8 : After-fsh16-4 → At 8
at8 c = next (on A4) (at7 c.before.before) (lit< tt) c.fsh16-4.ensures

abbrev at9 : After-fh16 → At 9
at9 c = next_T (at8 c.before.before) (lit< tt) refl c.fh16.ensures

abbrev at10 : After-fh16-2 → At 10
at10 c = next_T (at9 c.before.before) (lit< tt) refl c.fh16-2.ensures

abbrev at11 : After-fh16-3 → At 11
at11 c = next_T (at10 c.before.before) (lit< tt) refl c.fh16-3.ensures

abbrev at12 : After-fh16-4 → At 12
at12 c = next_T (at11 c.before.before) (lit< tt) refl c.fh16-4.ensures

pub returns : goal.returns
returns c = end (at12 c) refl ∙ ap (λ (ss : List Step2). run step2 ss (at12 c).start) (sym all)

pub fsb16-requires : goal.fsb16-requires
fsb16-requires c = (lit< tt, lit< tt, turns angle28 (lit< tt) (lit< tt))

pub fsb16-requires-2 : goal.fsb16-requires-2
fsb16-requires-2 c = (lit< tt, lit< tt, turns angle12 (lit< tt) (lit< tt))

pub fsb16-requires-3 : goal.fsb16-requires-3
fsb16-requires-3 c = (lit< tt, lit< tt, turns angle_back4 (lit< tt) (lit< tt))

pub fsb16-requires-4 : goal.fsb16-requires-4
fsb16-requires-4 c = (lit< tt, lit< tt, turns angle_back20 (lit< tt) (lit< tt))

pub fsh16-requires : goal.fsh16-requires
fsh16-requires c = call (on A4) (at4 c.before) (lit< tt)

pub fsh16-requires-2 : goal.fsh16-requires-2
fsh16-requires-2 c = call (on A4) (at5 c.before) (lit< tt)

pub fsh16-requires-3 : goal.fsh16-requires-3
fsh16-requires-3 c = call (on A4) (at6 c.before) (lit< tt)

pub fsh16-requires-4 : goal.fsh16-requires-4
fsh16-requires-4 c = call (on A4) (at7 c.before) (lit< tt)

pub fh16-requires : goal.fh16-requires
fh16-requires c = call (on A4) (at8 c.before) (lit< tt)

pub fh16-requires-2 : goal.fh16-requires-2
fh16-requires-2 c = call (on A4) (at9 c.before) (lit< tt)

pub fh16-requires-3 : goal.fh16-requires-3
fh16-requires-3 c = call (on A4) (at10 c.before) (lit< tt)

pub fh16-requires-4 : goal.fh16-requires-4
fh16-requires-4 c = call (on A4) (at11 c.before) (lit< tt)
