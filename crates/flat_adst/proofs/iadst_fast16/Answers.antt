-- `flat_adst::iadst_fast16` meets its contract: its calls are the steps, one after the other.
use mathlib.Core.Path.{◌≡◌, refl, sym, ap, ◌∙◌, subst}
use mathlib.Core.Bool.{true, false}
use mathlib.Core.List.{List, [], ◌∷◌}
use Prim.Native.Nat.{ℕ, ◌^◌}
use lib.Dec.{lit<}
use lib.IntN.{pos, negsuc}
use lib.ListN.{replicate}
use Rattle.whole.specs.Steps.{run, each}
use Rattle.whole.specs.Inner.{Ok}
use Rattle.steps.specs.Step.{Bf, Hd, Neg, Move, A4}
use Rattle.steps.specs.Step2.{Arrays, Step2, on, SB, SH, step2, fresh}
use Rattle.steps.specs.Inner.{Fine2}
use Rattle.adst.specs.Adst.{adst_in, adst_out, on_t, adst16_steps, adst_steps, adst}
use Rattle.adst.specs.Inner.{arrays}
use Rattle.flat.proofs.Straight.{Done, begin, call, next, end}
use Rattle.flat.proofs.Arrays.{next_T}
use Rattle.flat_adst.proofs.iadst_fast16.Lts as lts
use Rattle.flat_adst.proofs.iadst_fast16.Tie as tie
use Rattle.flat_adst.proofs.iadst_fast16.Reads as reads
use Rattle.flat_adst.proofs.iadst_fast16.Goals as goal
use Rattle.flat_adst.proofs.iadst_fast16.Goals.{After-fb, After-fb-2, After-fb-3, After-fb-4, After-fh, After-fh-2, After-fh-3, After-fh-4, After-fh-5, After-fh-6, After-fh-7, After-fh-8, After-fneg, After-fneg-2, After-fneg-3, After-fneg-4, After-fsh, After-fsh-10, After-fsh-11, After-fsh-12, After-fsh-13, After-fsh-14, After-fsh-15, After-fsh-16, After-fsh-2, After-fsh-3, After-fsh-4, After-fsh-5, After-fsh-6, After-fsh-7, After-fsh-8, After-fsh-9, After-input16, After-output16, Start}

-- the place behind a call, with what was known there
abbrev After-fsb-10 : Type 0
After-fsb-10 = lts.After-fsb10 tie.the-claims reads.Pre reads.Post

-- the place behind a call, with what was known there
abbrev After-fsb-11 : Type 0
After-fsb-11 = lts.After-fsb11 tie.the-claims reads.Pre reads.Post

-- the place behind a call, with what was known there
abbrev After-fsb-12 : Type 0
After-fsb-12 = lts.After-fsb12 tie.the-claims reads.Pre reads.Post

-- the place behind a call, with what was known there
abbrev After-fsb-13 : Type 0
After-fsb-13 = lts.After-fsb13 tie.the-claims reads.Pre reads.Post

-- the place behind a call, with what was known there
abbrev After-fsb-14 : Type 0
After-fsb-14 = lts.After-fsb14 tie.the-claims reads.Pre reads.Post

-- the place behind a call, with what was known there
abbrev After-fsb-15 : Type 0
After-fsb-15 = lts.After-fsb15 tie.the-claims reads.Pre reads.Post

-- the place behind a call, with what was known there
abbrev After-fsb-16 : Type 0
After-fsb-16 = lts.After-fsb16 tie.the-claims reads.Pre reads.Post

-- the place behind a call, with what was known there
abbrev After-fsb-2 : Type 0
After-fsb-2 = lts.After-fsb2 tie.the-claims reads.Pre reads.Post

-- the place behind a call, with what was known there
abbrev After-fsb-3 : Type 0
After-fsb-3 = lts.After-fsb3 tie.the-claims reads.Pre reads.Post

-- the place behind a call, with what was known there
abbrev After-fsb-4 : Type 0
After-fsb-4 = lts.After-fsb4 tie.the-claims reads.Pre reads.Post

-- the place behind a call, with what was known there
abbrev After-fsb-5 : Type 0
After-fsb-5 = lts.After-fsb5 tie.the-claims reads.Pre reads.Post

-- the place behind a call, with what was known there
abbrev After-fsb-6 : Type 0
After-fsb-6 = lts.After-fsb6 tie.the-claims reads.Pre reads.Post

-- the place behind a call, with what was known there
abbrev After-fsb-7 : Type 0
After-fsb-7 = lts.After-fsb7 tie.the-claims reads.Pre reads.Post

-- the place behind a call, with what was known there
abbrev After-fsb-8 : Type 0
After-fsb-8 = lts.After-fsb8 tie.the-claims reads.Pre reads.Post

-- the place behind a call, with what was known there
abbrev After-fsb-9 : Type 0
After-fsb-9 = lts.After-fsb9 tie.the-claims reads.Pre reads.Post

-- the place behind a call, with what was known there
abbrev After-fsb : Type 0
After-fsb = lts.After-fsb tie.the-claims reads.Pre reads.Post

abbrev steps : List Step2
steps =
    on (Move 16 (adst_in 4)) ∷ SB 0 1 (pos 31) true ∷ SB 2 3 (pos 27) true ∷ SB 4 5 (pos 23) true ∷ SB 6 7 (pos 19) true ∷ SB 8 9 (pos 15) true ∷
    SB 10 11 (pos 11) true ∷ SB 12 13 (pos 7) true ∷ SB 14 15 (pos 3) true ∷ SH 0 8 ∷ SH 1 9 ∷ SH 2 10 ∷ SH 3 11 ∷ SH 4 12 ∷ SH 5 13 ∷ SH 6 14 ∷
    SH 7 15 ∷ SB 8 9 (pos 28) true ∷ SB 10 11 (pos 12) true ∷ SB 12 13 (negsuc 3) true ∷ SB 14 15 (negsuc 19) true ∷ SH 8 12 ∷ SH 9 13 ∷ SH 10 14 ∷
    SH 11 15 ∷ on (Hd 0 4 false) ∷ on (Hd 1 5 false) ∷ on (Hd 2 6 false) ∷ on (Hd 3 7 false) ∷ SB 4 5 (pos 24) true ∷ SB 7 6 (pos 8) true ∷
    SB 12 13 (pos 24) true ∷ SB 15 14 (pos 8) true ∷ SH 4 6 ∷ SH 5 7 ∷ SH 12 14 ∷ SH 13 15 ∷ on (Hd 0 2 false) ∷ on (Hd 1 3 false) ∷
    on (Hd 8 10 false) ∷ on (Hd 9 11 false) ∷ on (Bf 2 3 (pos 48) false) ∷ on (Bf 6 7 (pos 112) false) ∷ on (Bf 10 11 (pos 112) false) ∷
    on (Bf 14 15 (pos 48) false) ∷ on (Move 16 (adst_out 4)) ∷ on (Neg 1) ∷ on (Neg 3) ∷ on (Neg 13) ∷ on (Neg 15) ∷ []

all : adst_steps 4 ≡ steps
unfolding adst_steps adst16_steps on_t each
all = refl

-- after k calls
abbrev At : ℕ → Type 0
At k = Done step2 (Fine2 (2 ^ 46)) steps k

fine : (c : Start) → Ok step2 (Fine2 (2 ^ 46)) steps (arrays c.args.t.now (replicate 16 (pos 0)))
unfolding fresh
fine c = subst (λ (ss : List Step2). Ok step2 (Fine2 (2 ^ 46)) ss (fresh c.args.t.now)) all c.requires

abbrev at0 : Start → At 0
at0 c = begin (fine c)

abbrev at1 : After-input16 → At 1
at1 c = next_T (at0 c.before.before) (lit< tt) refl c.input16.ensures

abbrev at2 : After-fsb → At 2
at2 c = next (on A4) (at1 c.before.before) (lit< tt) c.fsb.ensures

abbrev at3 : After-fsb-2 → At 3
at3 c = next (on A4) (at2 c.before.before) (lit< tt) c.fsb-2.ensures

abbrev at4 : After-fsb-3 → At 4
at4 c = next (on A4) (at3 c.before.before) (lit< tt) c.fsb-3.ensures

abbrev at5 : After-fsb-4 → At 5
at5 c = next (on A4) (at4 c.before.before) (lit< tt) c.fsb-4.ensures

abbrev at6 : After-fsb-5 → At 6
at6 c = next (on A4) (at5 c.before.before) (lit< tt) c.fsb-5.ensures

abbrev at7 : After-fsb-6 → At 7
at7 c = next (on A4) (at6 c.before.before) (lit< tt) c.fsb-6.ensures

abbrev at8 : After-fsb-7 → At 8
at8 c = next (on A4) (at7 c.before.before) (lit< tt) c.fsb-7.ensures

abbrev at9 : After-fsb-8 → At 9
at9 c = next (on A4) (at8 c.before.before) (lit< tt) c.fsb-8.ensures

abbrev at10 : After-fsh → At 10
at10 c = next (on A4) (at9 c.before.before.before) (lit< tt) c.fsh.ensures

abbrev at11 : After-fsh-2 → At 11
at11 c = next (on A4) (at10 c.before.before.before) (lit< tt) c.fsh-2.ensures

abbrev at12 : After-fsh-3 → At 12
at12 c = next (on A4) (at11 c.before.before.before) (lit< tt) c.fsh-3.ensures

abbrev at13 : After-fsh-4 → At 13
at13 c = next (on A4) (at12 c.before.before.before) (lit< tt) c.fsh-4.ensures

abbrev at14 : After-fsh-5 → At 14
at14 c = next (on A4) (at13 c.before.before.before) (lit< tt) c.fsh-5.ensures

abbrev at15 : After-fsh-6 → At 15
at15 c = next (on A4) (at14 c.before.before.before) (lit< tt) c.fsh-6.ensures

abbrev at16 : After-fsh-7 → At 16
at16 c = next (on A4) (at15 c.before.before.before) (lit< tt) c.fsh-7.ensures

abbrev at17 : After-fsh-8 → At 17
at17 c = next (on A4) (at16 c.before.before.before) (lit< tt) c.fsh-8.ensures

abbrev at18 : After-fsb-9 → At 18
at18 c = next (on A4) (at17 c.before.before) (lit< tt) c.fsb-9.ensures

abbrev at19 : After-fsb-10 → At 19
at19 c = next (on A4) (at18 c.before.before) (lit< tt) c.fsb-10.ensures

abbrev at20 : After-fsb-11 → At 20
at20 c = next (on A4) (at19 c.before.before) (lit< tt) c.fsb-11.ensures

abbrev at21 : After-fsb-12 → At 21
at21 c = next (on A4) (at20 c.before.before) (lit< tt) c.fsb-12.ensures

abbrev at22 : After-fsh-9 → At 22
at22 c = next (on A4) (at21 c.before.before.before) (lit< tt) c.fsh-9.ensures

abbrev at23 : After-fsh-10 → At 23
at23 c = next (on A4) (at22 c.before.before.before) (lit< tt) c.fsh-10.ensures

abbrev at24 : After-fsh-11 → At 24
at24 c = next (on A4) (at23 c.before.before.before) (lit< tt) c.fsh-11.ensures

abbrev at25 : After-fsh-12 → At 25
at25 c = next (on A4) (at24 c.before.before.before) (lit< tt) c.fsh-12.ensures

abbrev at26 : After-fh → At 26
at26 c = next_T (at25 c.before.before) (lit< tt) refl c.fh.ensures

abbrev at27 : After-fh-2 → At 27
at27 c = next_T (at26 c.before.before) (lit< tt) refl c.fh-2.ensures

abbrev at28 : After-fh-3 → At 28
at28 c = next_T (at27 c.before.before) (lit< tt) refl c.fh-3.ensures

abbrev at29 : After-fh-4 → At 29
at29 c = next_T (at28 c.before.before) (lit< tt) refl c.fh-4.ensures

abbrev at30 : After-fsb-13 → At 30
at30 c = next (on A4) (at29 c.before.before) (lit< tt) c.fsb-13.ensures

abbrev at31 : After-fsb-14 → At 31
at31 c = next (on A4) (at30 c.before.before) (lit< tt) c.fsb-14.ensures

abbrev at32 : After-fsb-15 → At 32
at32 c = next (on A4) (at31 c.before.before) (lit< tt) c.fsb-15.ensures

abbrev at33 : After-fsb-16 → At 33
at33 c = next (on A4) (at32 c.before.before) (lit< tt) c.fsb-16.ensures

abbrev at34 : After-fsh-13 → At 34
at34 c = next (on A4) (at33 c.before.before.before) (lit< tt) c.fsh-13.ensures

abbrev at35 : After-fsh-14 → At 35
at35 c = next (on A4) (at34 c.before.before.before) (lit< tt) c.fsh-14.ensures

abbrev at36 : After-fsh-15 → At 36
at36 c = next (on A4) (at35 c.before.before.before) (lit< tt) c.fsh-15.ensures

abbrev at37 : After-fsh-16 → At 37
at37 c = next (on A4) (at36 c.before.before.before) (lit< tt) c.fsh-16.ensures

abbrev at38 : After-fh-5 → At 38
at38 c = next_T (at37 c.before.before) (lit< tt) refl c.fh-5.ensures

abbrev at39 : After-fh-6 → At 39
at39 c = next_T (at38 c.before.before) (lit< tt) refl c.fh-6.ensures

abbrev at40 : After-fh-7 → At 40
at40 c = next_T (at39 c.before.before) (lit< tt) refl c.fh-7.ensures

abbrev at41 : After-fh-8 → At 41
at41 c = next_T (at40 c.before.before) (lit< tt) refl c.fh-8.ensures

abbrev at42 : After-fb → At 42
at42 c = next_T (at41 c.before.before) (lit< tt) refl c.fb.ensures

abbrev at43 : After-fb-2 → At 43
at43 c = next_T (at42 c.before.before) (lit< tt) refl c.fb-2.ensures

abbrev at44 : After-fb-3 → At 44
at44 c = next_T (at43 c.before.before) (lit< tt) refl c.fb-3.ensures

abbrev at45 : After-fb-4 → At 45
at45 c = next_T (at44 c.before.before) (lit< tt) refl c.fb-4.ensures

abbrev at46 : After-output16 → At 46
at46 c = next_T (at45 c.before.before) (lit< tt) refl c.output16.ensures

abbrev at47 : After-fneg → At 47
at47 c = next_T (at46 c.before.before) (lit< tt) refl c.fneg.ensures

abbrev at48 : After-fneg-2 → At 48
at48 c = next_T (at47 c.before.before) (lit< tt) refl c.fneg-2.ensures

abbrev at49 : After-fneg-3 → At 49
at49 c = next_T (at48 c.before.before) (lit< tt) refl c.fneg-3.ensures

abbrev at50 : After-fneg-4 → At 50
at50 c = next_T (at49 c.before.before) (lit< tt) refl c.fneg-4.ensures

pub returns : goal.returns
unfolding adst fresh
returns c =
    let u = (at50 c).start in
    ap (λ (v : Arrays). v.T) (end (at50 c) refl ∙ ap (λ (ss : List Step2). run step2 ss u) (sym all))

pub input16-requires : goal.input16-requires
input16-requires c = tt

pub fsb-requires : goal.fsb-requires
fsb-requires c = call (on A4) (at1 c.before) (lit< tt)

pub fsb-requires-2 : goal.fsb-requires-2
fsb-requires-2 c = call (on A4) (at2 c.before) (lit< tt)

pub fsb-requires-3 : goal.fsb-requires-3
fsb-requires-3 c = call (on A4) (at3 c.before) (lit< tt)

pub fsb-requires-4 : goal.fsb-requires-4
fsb-requires-4 c = call (on A4) (at4 c.before) (lit< tt)

pub fsb-requires-5 : goal.fsb-requires-5
fsb-requires-5 c = call (on A4) (at5 c.before) (lit< tt)

pub fsb-requires-6 : goal.fsb-requires-6
fsb-requires-6 c = call (on A4) (at6 c.before) (lit< tt)

pub fsb-requires-7 : goal.fsb-requires-7
fsb-requires-7 c = call (on A4) (at7 c.before) (lit< tt)

pub fsb-requires-8 : goal.fsb-requires-8
fsb-requires-8 c = call (on A4) (at8 c.before) (lit< tt)

pub fsh-requires : goal.fsh-requires
fsh-requires c = call (on A4) (at9 c.before.before) (lit< tt)

pub fsh-requires-2 : goal.fsh-requires-2
fsh-requires-2 c = call (on A4) (at10 c.before.before) (lit< tt)

pub fsh-requires-3 : goal.fsh-requires-3
fsh-requires-3 c = call (on A4) (at11 c.before.before) (lit< tt)

pub fsh-requires-4 : goal.fsh-requires-4
fsh-requires-4 c = call (on A4) (at12 c.before.before) (lit< tt)

pub fsh-requires-5 : goal.fsh-requires-5
fsh-requires-5 c = call (on A4) (at13 c.before.before) (lit< tt)

pub fsh-requires-6 : goal.fsh-requires-6
fsh-requires-6 c = call (on A4) (at14 c.before.before) (lit< tt)

pub fsh-requires-7 : goal.fsh-requires-7
fsh-requires-7 c = call (on A4) (at15 c.before.before) (lit< tt)

pub fsh-requires-8 : goal.fsh-requires-8
fsh-requires-8 c = call (on A4) (at16 c.before.before) (lit< tt)

pub fsb-requires-9 : goal.fsb-requires-9
fsb-requires-9 c = call (on A4) (at17 c.before) (lit< tt)

pub fsb-requires-10 : goal.fsb-requires-10
fsb-requires-10 c = call (on A4) (at18 c.before) (lit< tt)

pub fsb-requires-11 : goal.fsb-requires-11
fsb-requires-11 c = call (on A4) (at19 c.before) (lit< tt)

pub fsb-requires-12 : goal.fsb-requires-12
fsb-requires-12 c = call (on A4) (at20 c.before) (lit< tt)

pub fsh-requires-9 : goal.fsh-requires-9
fsh-requires-9 c = call (on A4) (at21 c.before.before) (lit< tt)

pub fsh-requires-10 : goal.fsh-requires-10
fsh-requires-10 c = call (on A4) (at22 c.before.before) (lit< tt)

pub fsh-requires-11 : goal.fsh-requires-11
fsh-requires-11 c = call (on A4) (at23 c.before.before) (lit< tt)

pub fsh-requires-12 : goal.fsh-requires-12
fsh-requires-12 c = call (on A4) (at24 c.before.before) (lit< tt)

pub fh-requires : goal.fh-requires
fh-requires c = call (on A4) (at25 c.before) (lit< tt)

pub fh-requires-2 : goal.fh-requires-2
fh-requires-2 c = call (on A4) (at26 c.before) (lit< tt)

pub fh-requires-3 : goal.fh-requires-3
fh-requires-3 c = call (on A4) (at27 c.before) (lit< tt)

pub fh-requires-4 : goal.fh-requires-4
fh-requires-4 c = call (on A4) (at28 c.before) (lit< tt)

pub fsb-requires-13 : goal.fsb-requires-13
fsb-requires-13 c = call (on A4) (at29 c.before) (lit< tt)

pub fsb-requires-14 : goal.fsb-requires-14
fsb-requires-14 c = call (on A4) (at30 c.before) (lit< tt)

pub fsb-requires-15 : goal.fsb-requires-15
fsb-requires-15 c = call (on A4) (at31 c.before) (lit< tt)

pub fsb-requires-16 : goal.fsb-requires-16
fsb-requires-16 c = call (on A4) (at32 c.before) (lit< tt)

pub fsh-requires-13 : goal.fsh-requires-13
fsh-requires-13 c = call (on A4) (at33 c.before.before) (lit< tt)

pub fsh-requires-14 : goal.fsh-requires-14
fsh-requires-14 c = call (on A4) (at34 c.before.before) (lit< tt)

pub fsh-requires-15 : goal.fsh-requires-15
fsh-requires-15 c = call (on A4) (at35 c.before.before) (lit< tt)

pub fsh-requires-16 : goal.fsh-requires-16
fsh-requires-16 c = call (on A4) (at36 c.before.before) (lit< tt)

pub fh-requires-5 : goal.fh-requires-5
fh-requires-5 c = call (on A4) (at37 c.before) (lit< tt)

pub fh-requires-6 : goal.fh-requires-6
fh-requires-6 c = call (on A4) (at38 c.before) (lit< tt)

pub fh-requires-7 : goal.fh-requires-7
fh-requires-7 c = call (on A4) (at39 c.before) (lit< tt)

pub fh-requires-8 : goal.fh-requires-8
fh-requires-8 c = call (on A4) (at40 c.before) (lit< tt)

pub fb-requires : goal.fb-requires
fb-requires c = call (on A4) (at41 c.before) (lit< tt)

pub fb-requires-2 : goal.fb-requires-2
fb-requires-2 c = call (on A4) (at42 c.before) (lit< tt)

pub fb-requires-3 : goal.fb-requires-3
fb-requires-3 c = call (on A4) (at43 c.before) (lit< tt)

pub fb-requires-4 : goal.fb-requires-4
fb-requires-4 c = call (on A4) (at44 c.before) (lit< tt)

pub output16-requires : goal.output16-requires
output16-requires c = tt

pub fneg-requires : goal.fneg-requires
fneg-requires c = call (on A4) (at46 c.before) (lit< tt)

pub fneg-requires-2 : goal.fneg-requires-2
fneg-requires-2 c = call (on A4) (at47 c.before) (lit< tt)

pub fneg-requires-3 : goal.fneg-requires-3
fneg-requires-3 c = call (on A4) (at48 c.before) (lit< tt)

pub fneg-requires-4 : goal.fneg-requires-4
fneg-requires-4 c = call (on A4) (at49 c.before) (lit< tt)
