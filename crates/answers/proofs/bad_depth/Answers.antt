use mathlib.Core.Logic.{⊎_elim, inl, inr}
use borrow.Author.Tests.{ne_eqb}
use Rattle.answers.specs.Bad.{bad_depth}
use Rattle.answers.proofs.bad_depth.Goals as goal
use Rattle.answers.proofs.bad_depth.Goals.{in-8, in_default}

pub returns : goal.returns
unfolding bad_depth
returns c =
    elim c.match-matches.branch [
      | in-8 w ↦
          rw w.matches-is (⊎_elim (λ e. rw e) (λ r. ⊎_elim (λ e. rw e) (λ e. rw e) r) w.in-8.is)
      | in_default w ↦
          let no = w.in_default.in_default-own.rest.1 in
          rw (w.matches-is, ne_eqb _ _ (λ e. no (inl e)), ne_eqb _ _ (λ e. no (inr (inl e))), ne_eqb _ _ (λ e. no (inr (inr e))))
    ]
