use mathlib.Core.List.{List}
use Prim.Native.Nat.{◌^◌}
use borrow.Author.Tests.{ne_eqb}
use Rattle.whole.specs.Steps.{◌⨾◌, run, each}
use Rattle.whole.proofs.Steps.{Left, run_skip, left_all, left_stage, left_first, left_last}
use Rattle.steps.specs.Step.{Step, step}
use Rattle.steps.specs.Inner.{Fine}
use Rattle.dct.specs.Dct.{turn4a, turn4b, steps4}
use Rattle.dct.proofs.Dct.{steps4_five}
use Rattle.dct.proofs.stage4.Goals as goal
use Rattle.dct.proofs.stage4.Goals.{After-stage4a, Else-n-ne5}

abbrev xs : List Step
xs = each 2 (λ i. each 2 (turn4a 5 32 i))

abbrev ys : List Step
ys = each 2 (λ i. each 4 (turn4b 32 i))

all : (c : Else-n-ne5) → Left step (Fine (2 ^ 46)) (xs ⨾ ys) c.args.t.now (run step (xs ⨾ ys) c.args.t.now)
all c = left_all (rw (steps4_five c.args.n c.if-n-ne5.false) at c.requires)

half : (c : After-stage4a) → Left step (Fine (2 ^ 46)) ys c.stage4a.new.t (run step (xs ⨾ ys) c.args.t.now)
half c = left_stage xs ys (all c.before.before) c.stage4a.ensures

pub returns-then-n-ne5 : goal.returns-then-n-ne5
unfolding steps4
returns-then-n-ne5 c = run_skip step _ _ (ne_eqb c.args.n 5 c.if-n-ne5.true)

pub stage4a-requires : goal.stage4a-requires
stage4a-requires c = left_first xs ys (all c.before)

pub stage4b-requires : goal.stage4b-requires
stage4b-requires c = (half c.before).ok

pub returns : goal.returns
returns c =
    rw (steps4_five c.args.n c.if-n-ne5.false) (left_last (half c.before.before) c.stage4b.ensures)
