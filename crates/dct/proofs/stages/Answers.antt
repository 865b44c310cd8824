use mathlib.Core.List.{List}
use Prim.Native.Nat.{ℕ, ◌^◌}
use Rattle.whole.specs.Steps.{◌⨾◌, run}
use Rattle.whole.proofs.Steps.{Left, left_all, left_stage, left_first, left_last}
use Rattle.steps.specs.Step.{Step, step}
use Rattle.steps.specs.Inner.{Fine}
use Rattle.dct.specs.Dct.{steps2, steps3, steps4, steps5, steps6, steps7, tail_at, tail}
use Rattle.dct.proofs.Dct.{at_least}
use Rattle.dct.proofs.stages.Goals as goal
use Rattle.dct.proofs.stages.Goals.{After-side-n0, After-stage2, After-stage3, After-stage4, After-stage5, After-stage6}

abbrev rest7 : ℕ → ℕ → List Step
rest7 n n0 = steps7 n0

abbrev rest6 : ℕ → ℕ → List Step
rest6 n n0 = steps6 n n0 ⨾ rest7 n n0

abbrev rest5 : ℕ → ℕ → List Step
rest5 n n0 = steps5 n n0 ⨾ rest6 n n0

abbrev rest4 : ℕ → ℕ → List Step
rest4 n n0 = steps4 n n0 ⨾ rest5 n n0

abbrev rest3 : ℕ → ℕ → List Step
rest3 n n0 = steps3 n n0 ⨾ rest4 n n0

-- what is left before and after each stage
at2 : (c : After-side-n0) → let s = c.args in
    Left step (Fine (2 ^ 46)) (steps2 c.side-n0.result ⨾ rest3 s.n c.side-n0.result) s.t.now (run step (tail s.n) s.t.now)
unfolding tail tail_at
at2 c = rw c.side-n0.ensures.0 (left_all c.requires.2)

at3 : (c : After-stage2) → let s = c.args in
    Left step (Fine (2 ^ 46)) (rest3 s.n c.side-n0.result) c.stage2.new.t (run step (tail s.n) s.t.now)
at3 c = left_stage (steps2 c.side-n0.result) (rest3 c.args.n c.side-n0.result) (at2 c.before.before) c.stage2.ensures

at4 : (c : After-stage3) → let s = c.args in
    Left step (Fine (2 ^ 46)) (rest4 s.n c.side-n0.result) c.stage3.new.t (run step (tail s.n) s.t.now)
at4 c = left_stage (steps3 c.args.n c.side-n0.result) (rest4 c.args.n c.side-n0.result) (at3 c.before.before) c.stage3.ensures

at5 : (c : After-stage4) → let s = c.args in
    Left step (Fine (2 ^ 46)) (rest5 s.n c.side-n0.result) c.stage4.new.t (run step (tail s.n) s.t.now)
at5 c = left_stage (steps4 c.args.n c.side-n0.result) (rest5 c.args.n c.side-n0.result) (at4 c.before.before) (rw c.side-n0.ensures.0 c.stage4.ensures)

at6 : (c : After-stage5) → let s = c.args in
    Left step (Fine (2 ^ 46)) (rest6 s.n c.side-n0.result) c.stage5.new.t (run step (tail s.n) s.t.now)
at6 c = left_stage (steps5 c.args.n c.side-n0.result) (rest6 c.args.n c.side-n0.result) (at5 c.before.before) c.stage5.ensures

at7 : (c : After-stage6) → let s = c.args in
    Left step (Fine (2 ^ 46)) (rest7 s.n c.side-n0.result) c.stage6.new.t (run step (tail s.n) s.t.now)
at7 c = left_stage (steps6 c.args.n c.side-n0.result) (rest7 c.args.n c.side-n0.result) (at6 c.before.before) c.stage6.ensures

pub stage2-requires : goal.stage2-requires
stage2-requires c =
    let n = c.args.n in
    let n0 = c.side-n0.result in
    let e = c.side-n0.ensures in
    (rw e.0 (at_least n c.requires.0 c.requires.1).0, e.1, left_first (steps2 n0) (rest3 n n0) (at2 c.before))

pub stage3-requires : goal.stage3-requires
stage3-requires c =
    let n = c.args.n in
    let n0 = c.side-n0.result in
    let e = c.side-n0.ensures in
    (rw e.0 (at_least n c.requires.0 c.requires.1).0, e.1, left_first (steps3 n n0) (rest4 n n0) (at3 c.before))

pub stage4-requires : goal.stage4-requires
stage4-requires c =
    let n = c.args.n in
    let n0 = c.side-n0.result in
    let e = c.side-n0.ensures in
    rw e.0 at (left_first (steps4 n n0) (rest5 n n0) (at4 c.before))

pub stage5-requires : goal.stage5-requires
stage5-requires c =
    let n = c.args.n in
    let n0 = c.side-n0.result in
    let e = c.side-n0.ensures in
    (c.requires.1, rw e.0 (at_least n c.requires.0 c.requires.1).1, e.1, left_first (steps5 n n0) (rest6 n n0) (at5 c.before))

pub stage6-requires : goal.stage6-requires
stage6-requires c =
    let n = c.args.n in
    let n0 = c.side-n0.result in
    let e = c.side-n0.ensures in
    (rw e.0 (at_least n c.requires.0 c.requires.1).0, e.1, left_first (steps6 n n0) (rest7 n n0) (at6 c.before))

pub stage7-requires : goal.stage7-requires
stage7-requires c =
    let n = c.args.n in
    let n0 = c.side-n0.result in
    let e = c.side-n0.ensures in
    (rw e.0 (at_least n c.requires.0 c.requires.1).0, e.1, (at7 c.before).ok)

pub returns : goal.returns
returns c = left_last (at7 c.before.before) c.stage7.ensures
