-- Steps of T alone among steps of T and S: what they do, and that each is fine.
use mathlib.Core.Path.{◌≡◌, refl, sym, ap, ◌∙◌}
use mathlib.Core.List.{List, [], ◌∷◌, ◌++◌}
use Prim.Native.Nat.{ℕ}
use lib.IntN.{ℤ}
use Rattle.whole.specs.Steps.{run}
use Rattle.whole.specs.Inner.{Ok, none, next}
use Rattle.whole.proofs.Steps.{Left, ok_here, ok_rest, left_stage, left_last}
use Rattle.steps.specs.Step.{Step, step}
use Rattle.steps.specs.Inner.{Fine, Fine2}
use Rattle.steps.specs.Step2.{Arrays, Step2, step2}
use Rattle.adst.specs.Adst.{on_t}
use Rattle.adst.specs.Inner.{arrays}

on_run : (ss : List Step) (t s : List ℤ) → run step2 (on_t ss) (arrays t s) ≡ arrays (run step ss t) s
unfolding run on_t step2
on_run [] t s = refl
on_run (x ∷ ss) t s = on_run ss (step x t) s

pub on_ok : (m : ℕ) (ss : List Step) {t s : List ℤ} → Ok step2 (Fine2 m) (on_t ss) (arrays t s) → Ok step (Fine m) ss t
unfolding on_t step2
on_ok m [] h = none
on_ok m (x ∷ ss) h = next (ok_here h) (on_ok m ss (ok_rest h))

lift : (ss : List Step) (t s : List ℤ) {u : List ℤ} → u ≡ run step ss t → arrays u s ≡ run step2 (on_t ss) (arrays t s)
lift ss t s e = ap (λ (u : List ℤ). arrays u s) e ∙ sym (on_run ss t s)

-- after a stage of T alone; after the last
pub left_on : (m : ℕ) (xs : List Step) (ys : List Step2) {t s u : List ℤ} {g : Arrays} → Left step2 (Fine2 m) (on_t xs ++ ys) (arrays t s) g → u ≡ run step xs t
    → Left step2 (Fine2 m) ys (arrays u s) g
left_on m xs ys {t} {s} l e = left_stage (on_t xs) ys l (lift xs t s e)

pub last_on : (m : ℕ) (xs : List Step) {t s u : List ℤ} {g : Arrays} → Left step2 (Fine2 m) (on_t xs) (arrays t s) g → u ≡ run step xs t → u ≡ g.T
last_on m xs {t} {s} l e = ap (λ (u : Arrays). u.T) (left_last l (lift xs t s e))
