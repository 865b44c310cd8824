-- The ADST of a line is its pieces, one after the other; where the line stays within 16 bits, every piece may be called.
use mathlib.Core.Path.{◌≡◌, refl, sym, ap, ◌∙◌}
use mathlib.Core.Bool.{true}
use mathlib.Core.List.{List, [], ◌∷◌}
use Prim.Native.Nat.{ℕ, suc, ◌^◌, ◌≤◌, ◌<◌}
use lib.Dec.{T, lit≤}
use lib.IntN.{ℤ, pos}
use lib.ListN.{length, get_or, drop, replicate}
use Rattle.whole.specs.Steps.{run, each}
use Rattle.whole.specs.Inner.{Ok, none, next}
use Rattle.whole.proofs.Steps.{ok_here, ok_rest}
use Rattle.steps.specs.Step.{Step, step}
use Rattle.steps.specs.Step2.{Arrays, Step2, step2, fresh}
use Rattle.steps.proofs.Places.{every}
use Rattle.adst.specs.Adst.{adst, adst_steps, adst8_steps, adst16_steps, adst_in, adst_out, out8, out16, on_t}
use Rattle.adst.specs.Inner.{arrays}
use Rattle.flat.proofs.Straight.{Done, joined, begin_pieces, end_pieces, call as called, next as then}
use Rattle.narrow.specs.Kept.{kept2}
use Rattle.narrow.specs.Inner.{Fine16, Fine216}
use Rattle.narrow.proofs.Kept.{placed}
use Rattle.narrow.proofs.Kept2.{placed2, kept2_ok}
use Rattle.narrow.proofs.Safe.{zeros_near}
use Rattle.narrow_adst.specs.Inner.{first8, next8, last8, turns16, first16, next16, more16, last16, pieces8, pieces16}

-- the pieces are the ADST of 2^n numbers, whose places are places of the line, two of a step not the same
pub record Cut (n : ℕ) (pieces : List (List Step2)) : Type 0 where
  pub low : 2 ^ n ≤ 16
  pub whole : adst_steps n ≡ joined pieces
  pub places : T (every (placed2 (2 ^ n)) (adst_steps n))

pub cut8 : Cut 3 pieces8
unfolding joined adst_steps adst8_steps adst_in adst_out out8 on_t each first8 next8 last8 every placed2 placed
cut8 = record { low = lit≤ tt; whole = refl; places = tt }

pub cut16 : Cut 4 pieces16
unfolding joined adst_steps adst16_steps adst_in adst_out out16 on_t each turns16 first16 next16 more16 last16 every placed2 placed
cut16 = record { low = lit≤ tt; whole = refl; places = tt }

-- k pieces are called
abbrev pub Called : List (List Step2) → ℕ → Type 0
Called pieces k = Done (run step2) (Ok step2 Fine216) pieces k

module _ {n : ℕ} {pieces : List (List Step2)} (cut : Cut n pieces) where
  pub adst_ok : (t : List ℤ) → 2 ^ n ≤ length t → kept2 (2 ^ n) (adst_steps n) (fresh t) ≡ true → Ok step2 Fine216 (adst_steps n) (arrays t (replicate 16 (pos 0)))
  unfolding fresh
  adst_ok t m k = kept2_ok (2 ^ n) cut.low (adst_steps n) (fresh t) cut.places m zeros_near k

  abbrev pub adst_begin : (t : List ℤ) → 2 ^ n ≤ length t → kept2 (2 ^ n) (adst_steps n) (fresh t) ≡ true → Called pieces 0
  adst_begin t m k = begin_pieces cut.whole (arrays t (replicate 16 (pos 0))) (adst_ok t m k)

  pub adst_end : {k : ℕ} (d : Called pieces k) → drop k pieces ≡ [] → (t : List ℤ) → d.start ≡ arrays t (replicate 16 (pos 0)) → d.here.T ≡ adst n t
  unfolding adst fresh
  adst_end d e t f = ap (λ (u : Arrays). u.T) (end_pieces cut.whole d e ∙ ap (run step2 (adst_steps n)) f)

-- ---- a piece of T alone
on_run : (ss : List Step) (t s : List ℤ) → run step2 (on_t ss) (arrays t s) ≡ arrays (run step ss t) s
unfolding run on_t step2
on_run [] t s = refl
on_run (x ∷ ss) t s = on_run ss (step x t) s

on_ok : (ss : List Step) {u : Arrays} → Ok step2 Fine216 (on_t ss) u → Ok step Fine16 ss u.T
unfolding on_t step2
on_ok [] h = none
on_ok (x ∷ ss) h = next (ok_here h) (on_ok ss (ok_rest h))

module _ {pieces : List (List Step2)} (ss : List Step) {k : ℕ} (d : Called pieces k) (h : k < length pieces) (e : get_or pieces k [] ≡ on_t ss) where
  pub call_T : Ok step Fine16 ss d.here.T
  call_T = on_ok ss (rw e at (called [] d h))

  pub does_T : {u : List ℤ} → u ≡ run step ss d.here.T → arrays u d.here.S ≡ run step2 (get_or pieces k []) d.here
  does_T q = rw e (ap (λ (t : List ℤ). arrays t d.here.S) q ∙ sym (on_run ss d.here.T d.here.S))

  -- after it
  abbrev pub next_T : {u : List ℤ} → u ≡ run step ss d.here.T → Called pieces (suc k)
  next_T q = then [] d h (does_T q)
