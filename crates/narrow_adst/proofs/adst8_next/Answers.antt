-- `narrow_adst::adst8_next` meets its contract: its calls are the steps, one after the other.
use mathlib.Core.Path.{◌≡◌, refl, sym, ap, ◌∙◌, subst}
use mathlib.Core.Bool.{true, false}
use mathlib.Core.List.{List, [], ◌∷◌}
use Prim.Native.Nat.{ℕ}
use lib.Dec.{lit<}
use lib.IntN.{pos}
use Rattle.whole.specs.Inner.{Ok}
use Rattle.whole.specs.Steps.{run, each}
use Rattle.steps.specs.Step.{Bf, Hd, A4}
use Rattle.steps.specs.Step2.{Step2, on, SB, SH, step2}
use Rattle.adst.specs.Inner.{arrays}
use Rattle.adst.specs.Adst.{on_t}
use Rattle.narrow.specs.Inner.{Fine216}
use Rattle.narrow.proofs.Angles.{asks, does, does_S, turns, angle8, angle16, angle24}
use Rattle.flat.proofs.Straight.{Done, begin, call, next, end}
use Rattle.flat.proofs.Arrays.{next_T}
use Rattle.narrow_adst.specs.Inner.{next8}
use Rattle.narrow_adst.proofs.adst8_next.Goals as goal
use Rattle.narrow_adst.proofs.adst8_next.Goals.{After-fb16, After-fb16-2, After-fh16, After-fh16-2, After-fsb16, After-fsb16-2, After-fsh16, After-fsh16-2, Start}

abbrev steps : List Step2
steps =
    SB 4 5 (pos 24) true ∷ SB 7 6 (pos 8) true ∷ SH 4 6 ∷ SH 5 7 ∷ on (Hd 0 2 false) ∷ on (Hd 1 3 false) ∷ on (Bf 2 3 (pos 16) true) ∷
    on (Bf 6 7 (pos 16) true) ∷ []

all : next8 ≡ steps
unfolding next8 on_t each
all = refl

-- after k calls
abbrev At : ℕ → Type 0
At k = Done step2 Fine216 steps k

abbrev at0 : Start → At 0
at0 c = begin (subst (λ (ss : List Step2). Ok step2 Fine216 ss (arrays c.args.t.now c.args.s.now)) all c.requires)

abbrev at1 : After-fsb16 → At 1
at1 c = let d = at0 c.before.before in next (on A4) d (lit< tt) (does_S angle24 4 5 true d.here c.fsb16.ensures.made)

abbrev at2 : After-fsb16-2 → At 2
at2 c = let d = at1 c.before.before in next (on A4) d (lit< tt) (does_S angle8 7 6 true d.here c.fsb16-2.ensures.made)

abbrev at3 : After-fsh16 → At 3
at3 c = next (on A4) (at2 c.before.before) (lit< tt) c.fsh16.ensures

abbrev at4 : After-fsh16-2 → At 4
at4 c = next (on A4) (at3 c.before.before) (lit< tt) c.fsh16-2.ensures

abbrev at5 : After-fh16 → At 5
at5 c = next_T (at4 c.before.before) (lit< tt) refl c.fh16.ensures

abbrev at6 : After-fh16-2 → At 6
at6 c = next_T (at5 c.before.before) (lit< tt) refl c.fh16-2.ensures

abbrev at7 : After-fb16 → At 7
at7 c = let d = at6 c.before.before in next_T d (lit< tt) refl (does angle16 2 3 true d.here.T c.fb16.ensures)

abbrev at8 : After-fb16-2 → At 8
at8 c = let d = at7 c.before.before in next_T d (lit< tt) refl (does angle16 6 7 true d.here.T c.fb16-2.ensures)

pub returns : goal.returns
returns c = end (at8 c) refl ∙ ap (λ (ss : List Step2). run step2 ss (at8 c).start) (sym all)

pub fsb16-requires : goal.fsb16-requires
fsb16-requires c = (lit< tt, lit< tt, turns angle24 (lit< tt) (lit< tt))

pub fsb16-requires-2 : goal.fsb16-requires-2
fsb16-requires-2 c = (lit< tt, lit< tt, turns angle8 (lit< tt) (lit< tt))

pub fsh16-requires : goal.fsh16-requires
fsh16-requires c = call (on A4) (at2 c.before) (lit< tt)

pub fsh16-requires-2 : goal.fsh16-requires-2
fsh16-requires-2 c = call (on A4) (at3 c.before) (lit< tt)

pub fh16-requires : goal.fh16-requires
fh16-requires c = call (on A4) (at4 c.before) (lit< tt)

pub fh16-requires-2 : goal.fh16-requires-2
fh16-requires-2 c = call (on A4) (at5 c.before) (lit< tt)

pub fb16-requires : goal.fb16-requires
fb16-requires c = let d = at6 c.before in asks angle16 2 3 true d.here.T (call (on A4) d (lit< tt))

pub fb16-requires-2 : goal.fb16-requires-2
fb16-requires-2 c = let d = at7 c.before in asks angle16 6 7 true d.here.T (call (on A4) d (lit< tt))
