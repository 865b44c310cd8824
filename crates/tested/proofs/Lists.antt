-- The table gives a list of steps: one computation a list, and then of each entry.
use mathlib.Core.Path.{◌≡◌, refl, ap, sym, subst, ◌∙◌}
use mathlib.Core.Bool.{Bool, true, false, ◌&&◌}
use mathlib.Core.List.{List, [], ◌∷◌}
use Prim.Native.Nat.{ℕ, zero, suc, ◌≤◌, ◌<◌, ◌^◌}
use native.Mathlib.Omega.{arith}
use lib.Dec.{T, lit≤}
use lib.ListN.{length, get_or}
use Rattle.whole.specs.Steps.{each, when}
use Rattle.primitives.specs.Brev.{Brev}
use Rattle.steps.specs.Step.{A4}
use Rattle.steps.specs.Step2.{Step2, on}
use Rattle.steps.proofs.Places.{every}
use Rattle.dct.specs.Dct.{steps2, steps3, steps4, steps5, steps6, steps7, tail_at, tail, dct_steps, dct_row}
use Rattle.dct.proofs.Dct.{two_to_five}
use Rattle.adst.specs.Adst.{adst_in, adst_out, out8, out16, on_t, adst8_steps, adst16_steps, adst_steps}
use Rattle.adst.proofs.Adst.{two_to_four}
use Rattle.wht.specs.Wht.{wht_row}
use Rattle.narrow.proofs.Kept.{placed}
use Rattle.narrow.proofs.Kept2.{placed2}
use Rattle.tested.specs.Line.{Sized, pass_of, steps_of}
use Rattle.tested.specs.Inner.{step_of, ready, given, readies, Gives}
use Rattle.tested.specs.declared.Step.{Step}
use Rattle.tested.specs.declared.Kind.{Kind}
use Rattle.tested.specs.declared.Kind.TheVariants.{Dct, Adst, WhtRow, WhtColumn}

pub t₁ : (a b : Bool) → T (a && b) → T a
t₁ true b h = tt
t₁ false b h = h

pub t₂ : (a b : Bool) → T (a && b) → T b
t₂ true b h = h
t₂ false b h = absurd h

-- an entry is its step, and is ready
at : (n : ℕ) (es : List Step) (ss : List Step2) → given n es ≡ ss → T (readies n es) → (i : ℕ) → i < length es → (d : Step)
    → (step_of n (get_or es i d) ≡ get_or ss i (on A4)) × T (ready n (get_or es i d))
unfolding given readies
at n [] ss p h i l d = absurd (omega arith)
at n (e ∷ es) [] p h i l d = cc
at n (e ∷ es) (s ∷ ss) p h zero l d = (cc, t₁ (ready n e) (readies n es) h)
at n (e ∷ es) (s ∷ ss) p h (suc i) l d = at n es ss (cc) (t₂ (ready n e) (readies n es) h) i (omega arith) d

long : (n : ℕ) (es : List Step) → length (given n es) ≡ length es
unfolding given
long n [] = refl
long n (e ∷ es) = ap suc (long n es)

module _ {n : ℕ} {es : List Step} {ss : List Step2} (g : Gives n es ss) where
  pub entry : (i : ℕ) → i < length es → (d : Step) → (step_of n (get_or es i d) ≡ get_or ss i (on A4)) × T (ready n (get_or es i d))
  entry = at n es ss g.steps g.fine

  pub as_long : length ss ≡ length es
  as_long = ap length (sym g.steps) ∙ long n es

-- ---- the nine lines: how many steps, and that their places are below 2^n
pub nine : (P : Kind → ℕ → Type 0) → P Dct 2 → P Dct 3 → P Dct 4 → P Dct 5 → P Adst 2 → P Adst 3 → P Adst 4 → P WhtRow 2 → P WhtColumn 2
    → (k : Kind) (n : ℕ) → Sized k n → P k n
nine P a b c d e f g p q Dct n h = two_to_five (P Dct) a b c d n h.0 h.1
nine P a b c d e f g p q Adst n h = two_to_four (P Adst) e f g n h.0 h.1
nine P a b c d e f g p q WhtRow n h = rw h p
nine P a b c d e f g p q WhtColumn n h = rw h q

pub sized : (n : ℕ) {k : Kind} (b : Kind) → k ≡ b → Sized k n → Sized b n
sized n b e h = subst (λ (k : Kind). Sized k n) e h

pub all_placed : (k : Kind) (n : ℕ) → Sized k n → T (every (placed2 (2 ^ n)) (steps_of (pass_of k) n))
unfolding steps_of every placed2 placed Brev steps2 steps3 steps4 steps5 steps6 steps7 tail_at tail dct_steps dct_row each when adst_in adst_out out8 out16 on_t adst8_steps adst16_steps adst_steps wht_row
all_placed = nine (λ k n. T (every (placed2 (2 ^ n)) (steps_of (pass_of k) n))) tt tt tt tt tt tt tt tt tt

-- between 4 and 32 numbers
pub at_most : (k : Kind) (n : ℕ) → Sized k n → (2 ≤ n) × (n ≤ 5) × (4 ≤ 2 ^ n)
at_most =
    nine (λ k n. (2 ≤ n) × (n ≤ 5) × (4 ≤ 2 ^ n)) (lit≤ tt, lit≤ tt, lit≤ tt) (lit≤ tt, lit≤ tt, lit≤ tt) (lit≤ tt, lit≤ tt, lit≤ tt) (lit≤ tt, lit≤ tt, lit≤ tt)
    (lit≤ tt, lit≤ tt, lit≤ tt) (lit≤ tt, lit≤ tt, lit≤ tt) (lit≤ tt, lit≤ tt, lit≤ tt) (lit≤ tt, lit≤ tt, lit≤ tt) (lit≤ tt, lit≤ tt, lit≤ tt)
