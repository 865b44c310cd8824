use mathlib.Core.Path.{◌∙◌}
use mathlib.Core.List.{List}
use Prim.Native.Nat.{ℕ, ◌-◌, ◌+◌, ◌*◌, ◌/◌, ◌^◌}
use borrow.Author.Tests.{le-leb, lt-leb}
use Rattle.whole.specs.Steps.{◌⨾◌, run, each}
use Rattle.whole.proofs.Steps.{Left, ok_when, run_when, run_skip, left_all, left_stage, left_first, left_last}
use Rattle.steps.specs.Step.{Step, step}
use Rattle.steps.specs.Inner.{Fine}
use Rattle.dct.specs.Dct.{turn5a, turn5b, steps5}
use Rattle.dct.proofs.stage5.Goals as goal
use Rattle.dct.proofs.stage5.Goals.{After-stage5a, Else-n-lt4}

abbrev xs : ℕ → ℕ → List Step
xs n n0 = each (n / 5 + 1) (λ i. each 2 (turn5a n n0 i))

abbrev ys : ℕ → ℕ → List Step
ys n n0 = each (2 * n - 6) (λ i. each 2 (turn5b n0 i))

all : (c : Else-n-lt4) → let s = c.args in
    Left step (Fine (2 ^ 46)) (xs s.n s.n0 ⨾ ys s.n s.n0) s.t.now (run step (xs s.n s.n0 ⨾ ys s.n s.n0) s.t.now)
unfolding steps5
all c = left_all (ok_when (xs c.args.n c.args.n0 ⨾ ys c.args.n c.args.n0) (le-leb 4 c.args.n c.if-n-lt4.false) c.requires.3)

half : (c : After-stage5a) → let s = c.args in
    Left step (Fine (2 ^ 46)) (ys s.n s.n0) c.stage5a.new.t (run step (xs s.n s.n0 ⨾ ys s.n s.n0) s.t.now)
half c = let s = c.args in left_stage (xs s.n s.n0) (ys s.n s.n0) (all c.before.before) c.stage5a.ensures

pub returns-then-n-lt4 : goal.returns-then-n-lt4
unfolding steps5
returns-then-n-lt4 c = run_skip step _ _ (lt-leb 4 c.args.n c.if-n-lt4.true)

pub stage5a-requires : goal.stage5a-requires
stage5a-requires c =
    (c.if-n-lt4.false, c.requires.0, c.requires.1 c.if-n-lt4.false, c.requires.2, left_first (xs c.args.n c.args.n0) (ys c.args.n c.args.n0) (all c.before))

pub stage5b-requires : goal.stage5b-requires
stage5b-requires c =
    (c.if-n-lt4.false, c.requires.0, c.requires.1 c.if-n-lt4.false, c.requires.2, (half c.before).ok)

pub returns : goal.returns
unfolding steps5
returns c =
    left_last (half c.before.before) c.stage5b.ensures ∙ run_when step _ _ (le-leb 4 c.args.n c.if-n-lt4.false)
