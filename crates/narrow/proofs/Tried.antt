-- Code of literal calls in a row that are tried: call number k tries step number k of a list, and the code stops at the first that fails.
use mathlib.Core.Path.{◌≡◌, refl, sym, ap, ◌∙◌}
use mathlib.Core.Bool.{Bool, true, false, not, ◌&&◌}
use mathlib.Core.List.{List, [], ◌∷◌}
use Prim.Native.Nat.{ℕ, suc, ◌<◌}
use lib.ListN.{length, get_or, drop}
use lib.Seq.{drop-cons}
use borrow.Author.Tests.{not-true, not-false}
use Rattle.whole.specs.Steps.{run}
use Rattle.narrow.specs.Inner.{passes}
use Rattle.narrow.proofs.Kept.{and_yes, passes_join}
use Rattle.flat.proofs.Straight.{joined}

-- k steps of ss have passed, from `start`, and `here` is reached
pub record Tried {A S : Type 0} (step : A → S → S) (fits : A → S → Bool) (ss : List A) (k : ℕ) : Type 0 where
  pub start : S
  pub here : S
  pub tests : passes step fits ss start ≡ passes step fits (drop k ss) here
  pub ends : run step ss start ≡ run step (drop k ss) here

-- what a checked leaf ensures of its result r and of what it leaves
abbrev pub Told : {A S : Type 0} (step : A → S → S) (fits : A → S → Bool) → A → S → Bool → S → Type 0
Told step fits s t r u = (r ≡ fits s t) × (r ≡ true → u ≡ step s t)

module _ {A S : Type 0} {step : A → S → S} {fits : A → S → Bool} {ss : List A} where
  abbrev pub begin : (t : S) → Tried step fits ss 0
  begin t = record { start = t; here = t; tests = refl; ends = refl }

  opened : (a : A) {k : ℕ} (d : Tried step fits ss k) → k < length ss
      → passes step fits ss d.start ≡ fits (get_or ss k a) d.here && passes step fits (drop (suc k) ss) (step (get_or ss k a) d.here)
  unfolding passes
  opened a {k} d h = d.tests ∙ ap (λ (xs : List A). passes step fits xs d.here) (drop-cons ss k a h)

  -- call k failed
  pub stop : (a : A) {k : ℕ} {u : S} {r : Bool} (d : Tried step fits ss k) → k < length ss → Told step fits (get_or ss k a) d.here r u → not r ≡ true
      → passes step fits ss d.start ≡ false
  stop a {k} {u} {r} d h o e = opened a d h ∙ rw (sym o.0, not-true r e)

  -- so the function answers b, which is false, and promises nothing else
  pub stopped : (a : A) {X : Type 0} {v w : X} {k : ℕ} {u : S} {r b : Bool} (d : Tried step fits ss k) → k < length ss → b ≡ passes step fits ss d.start
      → Told step fits (get_or ss k a) d.here r u → not r ≡ true → (false ≡ b) × (false ≡ true → v ≡ w)
  stopped a d h q o e = (sym (q ∙ stop a d h o e), λ f. cc)

  pub passed : (a : A) {k : ℕ} {u : S} (d : Tried step fits ss k) → k < length ss → fits (get_or ss k a) d.here ≡ true → u ≡ step (get_or ss k a) d.here
      → passes step fits ss d.start ≡ passes step fits (drop (suc k) ss) u
  passed a {k} {u} d h e q = opened a d h ∙ rw (e, q)

  pub reached : (a : A) {k : ℕ} {u : S} (d : Tried step fits ss k) → k < length ss → u ≡ step (get_or ss k a) d.here
      → run step ss d.start ≡ run step (drop (suc k) ss) u
  unfolding run
  reached a {k} {u} d h q = d.ends ∙ ap (λ (xs : List A). run step xs d.here) (drop-cons ss k a h) ∙ rw q

  -- call k does its step, which fits
  abbrev pub sure : (a : A) {k : ℕ} {u : S} (d : Tried step fits ss k) → k < length ss → fits (get_or ss k a) d.here ≡ true → u ≡ step (get_or ss k a) d.here
      → Tried step fits ss (suc k)
  sure a {k} {u} d h e q = record { start = d.start; here = u; tests = passed a d h e q; ends = reached a d h q }

  -- call k passed
  pub told_fits : (a : A) {k : ℕ} {u : S} {r : Bool} (d : Tried step fits ss k) → Told step fits (get_or ss k a) d.here r u → not r ≡ false → fits (get_or ss k a) d.here ≡ true
  told_fits a {k} {u} {r} d o e = sym o.0 ∙ not-false r e

  abbrev pub next : (a : A) {k : ℕ} {u : S} {r : Bool} (d : Tried step fits ss k) → k < length ss → Told step fits (get_or ss k a) d.here r u → not r ≡ false
      → Tried step fits ss (suc k)
  next a {k} {u} {r} d h o e = sure a d h (told_fits a d o e) (o.1 (not-false r e))

  pub all_passed : {k : ℕ} (d : Tried step fits ss k) → drop k ss ≡ [] → passes step fits ss d.start ≡ true
  unfolding passes
  all_passed d e = d.tests ∙ ap (λ (xs : List A). passes step fits xs d.here) e

  pub end : {k : ℕ} (d : Tried step fits ss k) → drop k ss ≡ [] → d.here ≡ run step ss d.start
  unfolding run
  end d e = sym (d.ends ∙ ap (λ (xs : List A). run step xs d.here) e)

-- calls that try a list of steps each
module _ {A S : Type 0} (step : A → S → S) (fits : A → S → Bool) where
  pub passes_joined : (lists : List (List A)) (t : S) → passes (run step) (passes step fits) lists t ≡ passes step fits (joined lists) t
  unfolding passes joined
  passes_joined [] t = refl
  passes_joined (ss ∷ rest) t =
      ap (λ (b : Bool). passes step fits ss t && b) (passes_joined rest (run step ss t)) ∙ sym (passes_join step fits ss (joined rest) t)

  -- of one step
  pub told_alone : {a : A} {t u : S} {r : Bool} → Told step fits a t r u → Told (run step) (passes step fits) (a ∷ []) t r u
  unfolding passes run
  told_alone {a} {t} o = (o.0 ∙ sym (and_yes (fits a t)), o.1)
