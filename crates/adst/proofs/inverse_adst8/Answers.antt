-- `adst::inverse_adst8` meets its contract: each call runs its stage, and the rest is left.
use mathlib.Core.Path.{◌≡◌, refl}
use mathlib.Core.List.{List, [], ◌∷◌}
use Prim.Native.Nat.{◌^◌}
use native.Mathlib.Omega.{arith}
use lib.IntN.{ℤ, pos}
use lib.ListN.{replicate}
use Rattle.whole.specs.Steps.{◌⨾◌, run, each}
use Rattle.whole.proofs.Steps.{Left, left_all, left_stage, left_first}
use Rattle.whole.proofs.Within.{within_lit}
use Rattle.steps.specs.Step.{Step, Move}
use Rattle.steps.specs.Step2.{Step2, step2, fresh}
use Rattle.steps.specs.Inner.{Fine2}
use Rattle.adst.specs.Adst.{adst_in, adst_out, on_t, eight7, adst8_steps}
use Rattle.adst.specs.Inner.{arrays, sb_pair, sb_cross, sh_half, hadamard_half, negated}
use Rattle.adst.proofs.Lift.{on_ok, left_on, last_on}
use Rattle.adst.proofs.inverse_adst8.Lts as lts
use Rattle.adst.proofs.inverse_adst8.Tie as tie
use Rattle.adst.proofs.inverse_adst8.Reads as reads
use Rattle.adst.proofs.inverse_adst8.Goals as goal
use Rattle.adst.proofs.inverse_adst8.Goals.{After-adst8_stage7, After-adst_input_permute, After-adst_output_permute, After-hadamard_halves, After-negate_every_other, After-sh_halves, After-sh_halves-2, Start}

-- the place behind a call, with what was known there
abbrev After-sb_pairs : Type 0
After-sb_pairs = lts.After-sb_pairs tie.the-claims reads.Pre reads.Post

-- the place behind a call, with what was known there
abbrev After-sb_crossed : Type 0
After-sb_crossed = lts.After-sb_crossed tie.the-claims reads.Pre reads.Post

-- what each call runs, and what is left to run after it
abbrev x1 : List Step
x1 = Move 8 (adst_in 3) ∷ []

abbrev x2 : List Step2
x2 = each 4 (sb_pair 0 (pos 30) (pos 8))

abbrev x3 : List Step2
x3 = each 4 (sh_half 0 4)

abbrev x4 : List Step2
x4 = each 2 (sb_cross 4)

abbrev x5 : List Step2
x5 = each 2 (sh_half 4 2)

abbrev x6 : List Step
x6 = each 2 (hadamard_half 0 2)

abbrev x7 : List Step
x7 = each 2 eight7

abbrev x8 : List Step
x8 = Move 8 (adst_out 3) ∷ []

abbrev x9 : List Step
x9 = each 4 (negated 1)

abbrev r8 : List Step2
r8 = on_t x9

abbrev r7 : List Step2
r7 = on_t x8 ⨾ r8

abbrev r6 : List Step2
r6 = on_t x7 ⨾ r7

abbrev r5 : List Step2
r5 = on_t x6 ⨾ r6

abbrev r4 : List Step2
r4 = x5 ⨾ r5

abbrev r3 : List Step2
r3 = x4 ⨾ r4

abbrev r2 : List Step2
r2 = x3 ⨾ r3

abbrev r1 : List Step2
r1 = x2 ⨾ r2

abbrev r0 : List Step2
r0 = on_t x1 ⨾ r1

-- together they are the process
process : adst8_steps ≡ r0
unfolding adst8_steps on_t each
process = refl

abbrev Rest : List Step2 → List ℤ → List ℤ → List ℤ → Type 0
Rest ss t s u = Left step2 (Fine2 (2 ^ 46)) ss (arrays t s) (run step2 adst8_steps (fresh u))

left0 : (c : Start) → Rest r0 c.args.t.now (replicate 16 (pos 0)) c.args.t.now
unfolding fresh
left0 c = rw (← process) (left_all c.requires)

left1 : (c : After-adst_input_permute) → Rest r1 c.adst_input_permute.new.t (replicate 16 (pos 0)) c.args.t.now
unfolding run
left1 c = left_on (2 ^ 46) x1 r1 (left0 c.before.before) c.adst_input_permute.ensures

left2 : (c : After-sb_pairs) → Rest r2 c.adst_input_permute.new.t c.sb_pairs.new.s c.args.t.now
left2 c = left_stage x2 r2 (left1 c.before.before) c.sb_pairs.ensures

left3 : (c : After-sh_halves) → Rest r3 c.sh_halves.new.t c.sb_pairs.new.s c.args.t.now
left3 c = left_stage x3 r3 (left2 c.before.before.before) c.sh_halves.ensures

left4 : (c : After-sb_crossed) → Rest r4 c.sh_halves.new.t c.sb_crossed.new.s c.args.t.now
left4 c = left_stage x4 r4 (left3 c.before.before) c.sb_crossed.ensures

left5 : (c : After-sh_halves-2) → Rest r5 c.sh_halves-2.new.t c.sb_crossed.new.s c.args.t.now
left5 c = left_stage x5 r5 (left4 c.before.before.before) c.sh_halves-2.ensures

left6 : (c : After-hadamard_halves) → Rest r6 c.hadamard_halves.new.t c.sb_crossed.new.s c.args.t.now
left6 c = left_on (2 ^ 46) x6 r6 (left5 c.before.before) c.hadamard_halves.ensures

left7 : (c : After-adst8_stage7) → Rest r7 c.adst8_stage7.new.t c.sb_crossed.new.s c.args.t.now
left7 c = left_on (2 ^ 46) x7 r7 (left6 c.before.before) c.adst8_stage7.ensures

left8 : (c : After-adst_output_permute) → Rest r8 c.adst_output_permute.new.t c.sb_crossed.new.s c.args.t.now
unfolding run
left8 c = left_on (2 ^ 46) x8 r8 (left7 c.before.before) c.adst_output_permute.ensures

pub sb_pairs-requires : goal.sb_pairs-requires
sb_pairs-requires c = (omega arith, omega arith, within_lit 128 (pos 30) tt, within_lit 16 (pos 8) tt, left_first x2 r2 (left1 c.before))

pub sh_halves-requires : goal.sh_halves-requires
sh_halves-requires c = (omega arith, omega arith, left_first x3 r3 (left2 c.before.before))

pub sb_crossed-requires : goal.sb_crossed-requires
sb_crossed-requires c = (omega arith, left_first x4 r4 (left3 c.before))

pub sh_halves-requires-2 : goal.sh_halves-requires-2
sh_halves-requires-2 c = (omega arith, omega arith, left_first x5 r5 (left4 c.before.before))

pub hadamard_halves-requires : goal.hadamard_halves-requires
hadamard_halves-requires c = (omega arith, omega arith, on_ok (2 ^ 46) x6 (left_first (on_t x6) r6 (left5 c.before)))

pub adst8_stage7-requires : goal.adst8_stage7-requires
adst8_stage7-requires c = on_ok (2 ^ 46) x7 (left_first (on_t x7) r7 (left6 c.before))

pub negate_every_other-requires : goal.negate_every_other-requires
negate_every_other-requires c = (omega arith, omega arith, on_ok (2 ^ 46) x9 (left8 c.before).ok)

pub returns : goal.returns
returns c = last_on (2 ^ 46) x9 (left8 c.before.before) c.negate_every_other.ensures
