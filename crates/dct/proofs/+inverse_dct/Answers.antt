use mathlib.Core.Path.{◌≡◌, ◌∙◌}
use mathlib.Core.Bool.{true}
use mathlib.Core.List.{List}
use Prim.Native.Nat.{ℕ, ◌-◌, ◌≤◌, ◌^◌}
use native.Mathlib.Omega.{arith}
use lib.IntN.{ℤ, pos}
use Rattle.whole.specs.Steps.{◌⨾◌, run}
use Rattle.whole.specs.Inner.{Ok}
use Rattle.whole.proofs.Steps.{Left, ok_here, left_all, left_first, left_stage, left_last}
use Rattle.steps.specs.Step.{Bf, step}
use Rattle.steps.specs.Inner.{Fine}
use Rattle.dct.specs.Dct.{tail, dct_steps}
use Rattle.dct.proofs.Dct.{dct_more, dct_first}
use Rattle.dct.proofs.+inverse_dct.Goals as goal
use Rattle.dct.proofs.+inverse_dct.Goals.{Joined-n-eq2, then-n-eq2, else-n-eq2}

-- what is left at the start
all : (n : ℕ) (t : List ℤ) → 2 ≤ n → Ok step (Fine (2 ^ 46)) (dct_steps n) t → Left step (Fine (2 ^ 46)) (dct_steps (n - 1) ⨾ tail n) t (run step (dct_steps n) t)
all n t h ok = rw (dct_more n h) (left_all (rw (dct_more n h) at ok))

one : (n : ℕ) (t : List ℤ) {u : List ℤ} → n ≡ 2 → u ≡ step (Bf 0 1 (pos 16) true) t → u ≡ run step (dct_steps (n - 1)) t
unfolding run
one n t e q = rw (dct_first n e) q

-- after the join: t is the one butterfly's, or that of n - 1
rest : (t : ℕ) (c : Joined-n-eq2 t) → Left step (Fine (2 ^ 46)) (tail c.args.n) c.if-n-eq2.t (run step (dct_steps c.args.n) c.args.t)
unfolding step
rest t c =
    let n = c.args.n in
    let go = left_stage (dct_steps (n - 1)) (tail n) (all n c.args.t c.requires.0 c.requires.2) in
    elim c.if-n-eq2.branch [
      | then-n-eq2 w ↦ go (w.t-is ∙ one n c.args.t w.if-n-eq2.true w.butterfly.ensures)
      | else-n-eq2 w ↦ go (w.t-is ∙ w.inverse_dct-t.ensures)
    ]

pub butterfly-requires : goal.butterfly-requires
butterfly-requires t c =
    let n = c.args.n in
    ok_here (rw (dct_first n c.if-n-eq2.true) at (left_first (dct_steps (n - 1)) (tail n) (all n c.args.t c.requires.0 c.requires.2)))

pub inverse_dct-t-requires : goal.inverse_dct-t-requires
inverse_dct-t-requires t c =
    let n = c.args.n in
    (omega arith, (omega arith, omega arith, left_first (dct_steps (n - 1)) (tail n) (all n c.args.t c.requires.0 c.requires.2)))

pub stages-requires : goal.stages-requires
stages-requires t c = (c.requires.0, c.requires.1, (rest t c.before).ok)

pub returns : goal.returns
returns t c = left_last (rest t c.before.before) c.stages.ensures
