-- Code in a row over T and S: a call that changes T alone.
use mathlib.Core.Path.{◌≡◌, ap}
use mathlib.Core.List.{List}
use Prim.Native.Nat.{ℕ, suc, ◌<◌}
use lib.IntN.{ℤ}
use lib.ListN.{length, get_or}
use Rattle.steps.specs.Step.{Step, A4, step}
use Rattle.steps.specs.Step2.{Arrays, Step2, on, step2}
use Rattle.adst.specs.Inner.{arrays}
use Rattle.flat.proofs.Straight.{Done, next}

module _ {Fine : Step2 → Arrays → Type 0} {ss : List Step2} where
  pub on_T : {x : Step} {k : ℕ} {u : List ℤ} (d : Done step2 Fine ss k) → get_or ss k (on A4) ≡ on x → u ≡ step x d.here.T
      → arrays u d.here.S ≡ step2 (get_or ss k (on A4)) d.here
  unfolding step2
  on_T d e p = rw e (ap (λ (t : List ℤ). arrays t d.here.S) p)

  abbrev pub next_T : {x : Step} {k : ℕ} {u : List ℤ} (d : Done step2 Fine ss k) → k < length ss → get_or ss k (on A4) ≡ on x → u ≡ step x d.here.T
      → Done step2 Fine ss (suc k)
  next_T d h e p = next (on A4) d h (on_T d e p)
