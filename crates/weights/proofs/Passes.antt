-- The DCT of 4 to 32 numbers and the ADST of 8 and 16: weights and errors by tests that are computed, and the law of a line over the pass.
use mathlib.Core.Path.{◌≡◌}
use mathlib.Core.Bool.{true}
use mathlib.Core.List.{List, [], ◌∷◌}
use Prim.Native.Nat.{ℕ, ◌+◌, ◌*◌, ◌≤◌, ◌<◌}
use native.Mathlib.Decide.{ℕ_discrete}
use native.Mathlib.Omega.{arith}
use lib.Dec.{T}
use lib.IntN.{ℤ, pos}
use lib.ListN.{length, get_or}
use Rattle.whole.specs.Round.{Round2}
use Rattle.whole.specs.Lists.{fill, move, tabulate}
use Rattle.whole.specs.Steps.{each, when, run}
use Rattle.whole.proofs.Steps.{checks}
use Rattle.answers.specs.Sizes.{side}
use Rattle.primitives.specs.Brev.{Brev}
use Rattle.primitives.specs.Cosine.{Cos64, Sin64, cos_at}
use Rattle.steps.specs.Step.{Step, A4, Wh, adst4, wht4, step}
use Rattle.steps.specs.Step2.{step2, fresh}
use Rattle.steps.proofs.Places.{every}
use Rattle.dct.specs.Dct.{steps2, steps3, steps4, steps5, steps6, steps7, tail_at, tail, dct_steps, dct_row, dct}
use Rattle.dct.proofs.Dct.{two_to_five}
use Rattle.adst.specs.Adst.{adst_in, out8, out16, adst_out, on_t, adst8_steps, adst16_steps, adst_steps, adst}
use Rattle.adst.proofs.Adst.{two_to_four}
use Rattle.wht.specs.Wht.{wht_row, wht}
use Rattle.narrow.specs.Kept.{shorts, always, kept, kept2}
use Rattle.narrow.proofs.Kept.{and_true, shorts_all, placed}
use Rattle.narrow.proofs.Kept2.{placed2}
use Rattle.blocks.specs.Inverse.{Pass, Dct, Adst, Wht, apply}
use Rattle.blocks.proofs.Passes.{Valid}
use Rattle.weights.specs.Inner.{total, Keeps}
use Rattle.weights.proofs.Forms.{plus, scaled, less, unders, light, unit}
use Rattle.weights.proofs.Beside.{units, pair_f}
use Rattle.weights.proofs.Steps.{weigh, calm, ends, mild, Reaches, low_short, start_short, weights}
use Rattle.weights.proofs.Steps2.{weigh2, calm2, mild2, weights2}
use Rattle.weights.proofs.Four.{adst4_reaches, wht4_reaches}

-- in 16384ths no weight past 1.0017 and no error past 23.605 is met; 32 points have both, exactly
dct_mild : (n : ℕ) → 2 ≤ n → n ≤ 5 → T (mild (side n) 16411 386740 (dct_row n))
unfolding mild checks run every placed ends Round2 weigh calm pair_f plus scaled less unders light unit units tabulate dct_row dct_steps tail tail_at steps2 steps3 steps4 steps5 steps6 steps7 each when Brev move fill Cos64 Sin64 cos_at
dct_mild = two_to_five (λ n. T (mild (side n) 16411 386740 (dct_row n))) tt tt tt tt

-- the ADST of 4 numbers is one step, and weighed apart
three_to_four : (P : ℕ → Type 0) → P 3 → P 4 → (n : ℕ) → 3 ≤ n → n ≤ 4 → P n
three_to_four P a b n l h = two_to_four (λ n. 3 ≤ n → P n) (λ l. absurd (omega arith)) (λ l. a) (λ l. b) n (omega arith) h l

adst_mild : (n : ℕ) → 3 ≤ n → n ≤ 4 → T (mild2 (side n) 16411 386740 (adst_steps n))
unfolding mild2 checks run every placed placed2 ends Round2 weigh weigh2 calm calm2 pair_f plus scaled less unders light unit units tabulate adst_steps adst8_steps adst16_steps adst_in adst_out out8 out16 on_t each move fill Cos64 Sin64 cos_at
adst_mild = three_to_four (λ n. T (mild2 (side n) 16411 386740 (adst_steps n))) tt tt

-- ---- a line of one step is within 16 bits before it and after it
kept_one : (ss : List Step) (t : List ℤ) → Reaches 4 16411 386740 t (run step ss t) → 16411 * total 4 t + 386740 < 536870912
    → (shorts 4 t ≡ true) × (shorts 4 (run step ss t) ≡ true)
kept_one ss t r small = (
  start_short 4 16411 386740 t (omega arith) small,
  shorts_all 4 (run step ss t) (λ i l. low_short (16411 * total 4 t + 386740) (get_or (run step ss t) i (pos 0)) (r.each i l) small),
)

adst4_weights : (t : List ℤ) → 4 ≤ length t → 16411 * total 4 t + 386740 < 536870912 → Keeps Adst 2 t × Reaches 4 16411 386740 t (adst 2 t)
unfolding kept2 always adst adst_steps fresh run step2 step
adst4_weights t room small =
    let r = adst4_reaches t room in
    let k = kept_one (A4 ∷ []) t r small in
    (and_true (shorts 4 t) (shorts 4 (adst4 t)) k.0 k.1, r)

wht_weights : (shift : ℕ) (t : List ℤ) → 4 ≤ length t → 16411 * total 4 t + 386740 < 536870912 → Keeps (Wht shift) 2 t × Reaches 4 16411 386740 t (wht shift t)
unfolding kept always wht wht_row run step
wht_weights shift t room small =
    let r = wht4_reaches shift t room in
    let k = kept_one (Wh shift ∷ []) t r small in
    (and_true (shorts 4 t) (shorts 4 (wht4 shift t)) k.0 k.1, r)

-- ---- over the pass
pub pass_weights : (shift : ℕ) (p : Pass) (n : ℕ) → Valid shift p n → (t : List ℤ) → side n ≤ length t → 16411 * total (side n) t + 386740 < 536870912
    → Keeps p n t × Reaches (side n) 16411 386740 t (apply p n t)
unfolding apply dct adst
pass_weights shift Dct n v t room small = weights (side n) 16411 386740 (dct_row n) t (dct_mild n v.0 v.1) room small
pass_weights shift Adst n v t room small = go (ℕ_discrete n 2)
  where
    go : Dec (n ≡ 2) → Keeps Adst n t × Reaches (side n) 16411 386740 t (adst n t)
    go (yes e) = rw e (adst4_weights t (rw e at room) (rw e at small))
    go (no ne) =
        let l : 3 ≤ n = omega (arith, v.0) in
        weights2 (side n) 16411 386740 (adst_steps n) t (adst_mild n l v.1) (three_to_four (λ n. side n ≤ 16) (omega arith) (omega arith) n l v.1) room small
pass_weights shift (Wht k) n v t room small = rw v.0 (wht_weights k t (rw v.0 at room) (rw v.0 at small))
