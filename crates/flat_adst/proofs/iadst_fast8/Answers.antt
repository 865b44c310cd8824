-- `flat_adst::iadst_fast8` meets its contract: its calls are the steps, one after the other.
use mathlib.Core.Path.{◌≡◌, refl, sym, ap, ◌∙◌, subst}
use mathlib.Core.Bool.{true, false}
use mathlib.Core.List.{List, [], ◌∷◌}
use Prim.Native.Nat.{ℕ, ◌^◌}
use lib.Dec.{lit<}
use lib.IntN.{pos}
use lib.ListN.{replicate}
use Rattle.whole.specs.Steps.{run, each}
use Rattle.whole.specs.Inner.{Ok}
use Rattle.steps.specs.Step.{Bf, Hd, Neg, Move, A4}
use Rattle.steps.specs.Step2.{Arrays, Step2, on, SB, SH, step2, fresh}
use Rattle.steps.specs.Inner.{Fine2}
use Rattle.adst.specs.Adst.{adst_in, adst_out, on_t, adst8_steps, adst_steps, adst}
use Rattle.adst.specs.Inner.{arrays}
use Rattle.flat.proofs.Straight.{Done, begin, call, next, end}
use Rattle.flat.proofs.Arrays.{next_T}
use Rattle.flat_adst.proofs.iadst_fast8.Lts as lts
use Rattle.flat_adst.proofs.iadst_fast8.Tie as tie
use Rattle.flat_adst.proofs.iadst_fast8.Reads as reads
use Rattle.flat_adst.proofs.iadst_fast8.Goals as goal
use Rattle.flat_adst.proofs.iadst_fast8.Goals.{After-fb, After-fb-2, After-fh, After-fh-2, After-fneg, After-fneg-2, After-fneg-3, After-fneg-4, After-fsh, After-fsh-2, After-fsh-3, After-fsh-4, After-fsh-5, After-fsh-6, After-input8, After-output8, Start}

-- the place behind a call, with what was known there
abbrev After-fsb-2 : Type 0
After-fsb-2 = lts.After-fsb2 tie.the-claims reads.Pre reads.Post

-- the place behind a call, with what was known there
abbrev After-fsb-3 : Type 0
After-fsb-3 = lts.After-fsb3 tie.the-claims reads.Pre reads.Post

-- the place behind a call, with what was known there
abbrev After-fsb-4 : Type 0
After-fsb-4 = lts.After-fsb4 tie.the-claims reads.Pre reads.Post

-- the place behind a call, with what was known there
abbrev After-fsb-5 : Type 0
After-fsb-5 = lts.After-fsb5 tie.the-claims reads.Pre reads.Post

-- the place behind a call, with what was known there
abbrev After-fsb-6 : Type 0
After-fsb-6 = lts.After-fsb6 tie.the-claims reads.Pre reads.Post

-- the place behind a call, with what was known there
abbrev After-fsb : Type 0
After-fsb = lts.After-fsb tie.the-claims reads.Pre reads.Post

abbrev steps : List Step2
steps =
    on (Move 8 (adst_in 3)) ∷ SB 0 1 (pos 30) true ∷ SB 2 3 (pos 22) true ∷ SB 4 5 (pos 14) true ∷ SB 6 7 (pos 6) true ∷ SH 0 4 ∷ SH 1 5 ∷ SH 2 6 ∷
    SH 3 7 ∷ SB 4 5 (pos 24) true ∷ SB 7 6 (pos 8) true ∷ SH 4 6 ∷ SH 5 7 ∷ on (Hd 0 2 false) ∷ on (Hd 1 3 false) ∷ on (Bf 2 3 (pos 16) true) ∷
    on (Bf 6 7 (pos 16) true) ∷ on (Move 8 (adst_out 3)) ∷ on (Neg 1) ∷ on (Neg 3) ∷ on (Neg 5) ∷ on (Neg 7) ∷ []

all : adst_steps 3 ≡ steps
unfolding adst_steps adst8_steps on_t each
all = refl

-- after k calls
abbrev At : ℕ → Type 0
At k = Done step2 (Fine2 (2 ^ 46)) steps k

fine : (c : Start) → Ok step2 (Fine2 (2 ^ 46)) steps (arrays c.args.t.now (replicate 16 (pos 0)))
unfolding fresh
fine c = subst (λ (ss : List Step2). Ok step2 (Fine2 (2 ^ 46)) ss (fresh c.args.t.now)) all c.requires

abbrev at0 : Start → At 0
at0 c = begin (fine c)

abbrev at1 : After-input8 → At 1
at1 c = next_T (at0 c.before.before) (lit< tt) refl c.input8.ensures

abbrev at2 : After-fsb → At 2
at2 c = next (on A4) (at1 c.before.before) (lit< tt) c.fsb.ensures

abbrev at3 : After-fsb-2 → At 3
at3 c = next (on A4) (at2 c.before.before) (lit< tt) c.fsb-2.ensures

abbrev at4 : After-fsb-3 → At 4
at4 c = next (on A4) (at3 c.before.before) (lit< tt) c.fsb-3.ensures

abbrev at5 : After-fsb-4 → At 5
at5 c = next (on A4) (at4 c.before.before) (lit< tt) c.fsb-4.ensures

abbrev at6 : After-fsh → At 6
at6 c = next (on A4) (at5 c.before.before.before) (lit< tt) c.fsh.ensures

abbrev at7 : After-fsh-2 → At 7
at7 c = next (on A4) (at6 c.before.before.before) (lit< tt) c.fsh-2.ensures

abbrev at8 : After-fsh-3 → At 8
at8 c = next (on A4) (at7 c.before.before.before) (lit< tt) c.fsh-3.ensures

abbrev at9 : After-fsh-4 → At 9
at9 c = next (on A4) (at8 c.before.before.before) (lit< tt) c.fsh-4.ensures

abbrev at10 : After-fsb-5 → At 10
at10 c = next (on A4) (at9 c.before.before) (lit< tt) c.fsb-5.ensures

abbrev at11 : After-fsb-6 → At 11
at11 c = next (on A4) (at10 c.before.before) (lit< tt) c.fsb-6.ensures

abbrev at12 : After-fsh-5 → At 12
at12 c = next (on A4) (at11 c.before.before.before) (lit< tt) c.fsh-5.ensures

abbrev at13 : After-fsh-6 → At 13
at13 c = next (on A4) (at12 c.before.before.before) (lit< tt) c.fsh-6.ensures

abbrev at14 : After-fh → At 14
at14 c = next_T (at13 c.before.before) (lit< tt) refl c.fh.ensures

abbrev at15 : After-fh-2 → At 15
at15 c = next_T (at14 c.before.before) (lit< tt) refl c.fh-2.ensures

abbrev at16 : After-fb → At 16
at16 c = next_T (at15 c.before.before) (lit< tt) refl c.fb.ensures

abbrev at17 : After-fb-2 → At 17
at17 c = next_T (at16 c.before.before) (lit< tt) refl c.fb-2.ensures

abbrev at18 : After-output8 → At 18
at18 c = next_T (at17 c.before.before) (lit< tt) refl c.output8.ensures

abbrev at19 : After-fneg → At 19
at19 c = next_T (at18 c.before.before) (lit< tt) refl c.fneg.ensures

abbrev at20 : After-fneg-2 → At 20
at20 c = next_T (at19 c.before.before) (lit< tt) refl c.fneg-2.ensures

abbrev at21 : After-fneg-3 → At 21
at21 c = next_T (at20 c.before.before) (lit< tt) refl c.fneg-3.ensures

abbrev at22 : After-fneg-4 → At 22
at22 c = next_T (at21 c.before.before) (lit< tt) refl c.fneg-4.ensures

pub returns : goal.returns
unfolding adst fresh
returns c =
    let u = (at22 c).start in
    ap (λ (v : Arrays). v.T) (end (at22 c) refl ∙ ap (λ (ss : List Step2). run step2 ss u) (sym all))

pub input8-requires : goal.input8-requires
input8-requires c = tt

pub fsb-requires : goal.fsb-requires
fsb-requires c = call (on A4) (at1 c.before) (lit< tt)

pub fsb-requires-2 : goal.fsb-requires-2
fsb-requires-2 c = call (on A4) (at2 c.before) (lit< tt)

pub fsb-requires-3 : goal.fsb-requires-3
fsb-requires-3 c = call (on A4) (at3 c.before) (lit< tt)

pub fsb-requires-4 : goal.fsb-requires-4
fsb-requires-4 c = call (on A4) (at4 c.before) (lit< tt)

pub fsh-requires : goal.fsh-requires
fsh-requires c = call (on A4) (at5 c.before.before) (lit< tt)

pub fsh-requires-2 : goal.fsh-requires-2
fsh-requires-2 c = call (on A4) (at6 c.before.before) (lit< tt)

pub fsh-requires-3 : goal.fsh-requires-3
fsh-requires-3 c = call (on A4) (at7 c.before.before) (lit< tt)

pub fsh-requires-4 : goal.fsh-requires-4
fsh-requires-4 c = call (on A4) (at8 c.before.before) (lit< tt)

pub fsb-requires-5 : goal.fsb-requires-5
fsb-requires-5 c = call (on A4) (at9 c.before) (lit< tt)

pub fsb-requires-6 : goal.fsb-requires-6
fsb-requires-6 c = call (on A4) (at10 c.before) (lit< tt)

pub fsh-requires-5 : goal.fsh-requires-5
fsh-requires-5 c = call (on A4) (at11 c.before.before) (lit< tt)

pub fsh-requires-6 : goal.fsh-requires-6
fsh-requires-6 c = call (on A4) (at12 c.before.before) (lit< tt)

pub fh-requires : goal.fh-requires
fh-requires c = call (on A4) (at13 c.before) (lit< tt)

pub fh-requires-2 : goal.fh-requires-2
fh-requires-2 c = call (on A4) (at14 c.before) (lit< tt)

pub fb-requires : goal.fb-requires
fb-requires c = call (on A4) (at15 c.before) (lit< tt)

pub fb-requires-2 : goal.fb-requires-2
fb-requires-2 c = call (on A4) (at16 c.before) (lit< tt)

pub output8-requires : goal.output8-requires
output8-requires c = tt

pub fneg-requires : goal.fneg-requires
fneg-requires c = call (on A4) (at18 c.before) (lit< tt)

pub fneg-requires-2 : goal.fneg-requires-2
fneg-requires-2 c = call (on A4) (at19 c.before) (lit< tt)

pub fneg-requires-3 : goal.fneg-requires-3
fneg-requires-3 c = call (on A4) (at20 c.before) (lit< tt)

pub fneg-requires-4 : goal.fneg-requires-4
fneg-requires-4 c = call (on A4) (at21 c.before) (lit< tt)
