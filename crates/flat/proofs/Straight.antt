-- Code of literal calls in a row: call number k does step number k of a list.
use mathlib.Core.Path.{◌≡◌, refl, sym, ap, subst, ◌∙◌}
use mathlib.Core.List.{List, [], ◌∷◌, ◌++◌}
use Prim.Native.Nat.{ℕ, suc, ◌<◌}
use lib.ListN.{length, get_or, drop}
use lib.Seq.{drop-cons}
use Rattle.whole.specs.Steps.{run}
use Rattle.whole.specs.Inner.{Ok, none, next as then}
use Rattle.whole.proofs.Steps.{Left, run_join, ok_join, left_all, left_fine, left_next, left_none}

-- k steps of ss are done, from `start`, and `here` is reached
pub record Done {A S : Type 0} (step : A → S → S) (Fine : A → S → Type 0) (ss : List A) (k : ℕ) : Type 0 where
  pub start : S
  pub here : S
  pub left : Left step Fine (drop k ss) here (run step ss start)

module _ {A S : Type 0} {step : A → S → S} {Fine : A → S → Type 0} {ss : List A} where
  abbrev pub begin : {t : S} → Ok step Fine ss t → Done step Fine ss 0
  begin {t} h = record { start = t; here = t; left = left_all h }

  -- what call k asks; a is any step
  pub call : (a : A) {k : ℕ} (d : Done step Fine ss k) → k < length ss → Fine (get_or ss k a) d.here
  call a {k} d h =
      left_fine (subst (λ (xs : List A). Left step Fine xs d.here (run step ss d.start)) (drop-cons ss k a h) d.left)

  pub more : (a : A) {k : ℕ} {u : S} (d : Done step Fine ss k) → k < length ss → u ≡ step (get_or ss k a) d.here → Left step Fine (drop (suc k) ss) u (run step ss d.start)
  more a {k} d h e =
      left_next (subst (λ (xs : List A). Left step Fine xs d.here (run step ss d.start)) (drop-cons ss k a h) d.left) e

  -- after call k
  abbrev pub next : (a : A) {k : ℕ} {u : S} (d : Done step Fine ss k) → k < length ss → u ≡ step (get_or ss k a) d.here → Done step Fine ss (suc k)
  next a {k} {u} d h e = record { start = d.start; here = u; left = more a d h e }

  pub end : {k : ℕ} (d : Done step Fine ss k) → drop k ss ≡ [] → d.here ≡ run step ss d.start
  end {k} d e = left_none (subst (λ (xs : List A). Left step Fine xs d.here (run step ss d.start)) e d.left)

-- calls that do a list of steps each: a list is a step of the code
unfoldable pub joined : {A : Type 0} → List (List A) → List A
joined [] = []
joined (ss ∷ rest) = ss ++ joined rest

module _ {A S : Type 0} (step : A → S → S) where
  pub run_joined : (lists : List (List A)) (t : S) → run (run step) lists t ≡ run step (joined lists) t
  unfolding run joined
  run_joined [] t = refl
  run_joined (ss ∷ rest) t = run_joined rest (run step ss t) ∙ rw (run_join step ss (joined rest) t)

  pub ok_joined : {Fine : A → S → Type 0} (lists : List (List A)) {t : S} → Ok step Fine (joined lists) t → Ok (run step) (Ok step Fine) lists t
  unfolding joined
  ok_joined [] h = none
  ok_joined (ss ∷ rest) h = let o = ok_join ss (joined rest) h in then o.0 (ok_joined rest o.1)

  pub alone : {a : A} {t u : S} → u ≡ step a t → u ≡ run step (a ∷ []) t
  unfolding run
  alone e = e

-- calls that together do the steps ss
module _ {A S : Type 0} {step : A → S → S} {Fine : A → S → Type 0} {ss : List A} {lists : List (List A)} (whole : ss ≡ joined lists) where
  pub ok_pieces : (t : S) → Ok step Fine ss t → Ok (run step) (Ok step Fine) lists t
  ok_pieces t h = ok_joined step lists (subst (λ (xs : List A). Ok step Fine xs t) whole h)

  abbrev pub begin_pieces : (t : S) → Ok step Fine ss t → Done (run step) (Ok step Fine) lists 0
  begin_pieces t h = begin (ok_pieces t h)

  pub end_pieces : {k : ℕ} (d : Done (run step) (Ok step Fine) lists k) → drop k lists ≡ [] → d.here ≡ run step ss d.start
  end_pieces d e = end d e ∙ run_joined step lists d.start ∙ ap (λ (xs : List A). run step xs d.start) (sym whole)
