-- Forms through the steps of T and S: those of S are not rounded, and S does not count.
use mathlib.Core.Path.{◌≡◌, refl, ◌∙◌}
use mathlib.Core.Bool.{Bool, true}
use mathlib.Core.List.{List}
use Prim.Native.Nat.{ℕ, ◌+◌, ◌*◌, ◌≤◌, ◌<◌}
use lib.Dec.{leb, T, leb→le}
use lib.IntN.{ℤ, pos}
use lib.ListN.{length, get_or, set, replicate}
use Rattle.whole.specs.Steps.{run}
use Rattle.whole.proofs.Tests.{both, b₁, b₂}
use Rattle.whole.proofs.Steps.{checks, checks_sound}
use Rattle.primitives.specs.Rotations.{apply_sb, apply_sh}
use Rattle.steps.specs.Step2.{Arrays, Step2, on, SB, SH, step2, fresh}
use Rattle.steps.proofs.Places.{every}
use Rattle.narrow.specs.Kept.{kept2}
use Rattle.narrow.specs.Inner.{fits2}
use Rattle.narrow.proofs.Kept.{two}
use Rattle.narrow.proofs.Kept2.{placed2, kept2_fits}
use Rattle.weights.specs.Inner.{total}
use Rattle.weights.proofs.Forms.{Form, nil, add_f, sub_f, turn_xf, turn_yf, round_f, mass, w_add, w_sub, w_turn_x, w_turn_y, w_round}
use Rattle.weights.proofs.Beside.{units, pair_f, Beside, beside_two, beside_pair, beside_units, beside_zeros}
use Rattle.weights.proofs.Steps.{weigh, lights, lights_short, calm, calm_step, ok_passes, ends, Reaches, start_short, ends_reach}

pub record Forms : Type 0 where
  pub T : List Form
  pub S : List Form

unfoldable pub weigh2 : Step2 → Forms → Forms
weigh2 (on s) v = record { T = weigh s v.T; S = v.S }
weigh2 (SB a b g flip) v =
    let p = get_or v.T a nil in
    let q = get_or v.T b nil in
    record { T = v.T; S = pair_f v.S a b (turn_xf p q g) (turn_yf p q g) flip }
weigh2 (SH a b) v =
    let p = get_or v.S a nil in
    let q = get_or v.S b nil in
    record { T = set (set v.T a (round_f (add_f p q))) b (round_f (sub_f p q)); S = v.S }

unfoldable pub calm2 : ℕ → ℕ → Step2 → Forms → Bool
calm2 k e (on s) v = calm k e s v.T
calm2 k e (SB a b g flip) v = true
calm2 k e (SH a b) v =
    let p = get_or v.S a nil in
    let q = get_or v.S b nil in
    lights k e (round_f (add_f p q)) (round_f (sub_f p q))

pub record Beside2 (n : ℕ) (x : ℕ → ℤ) (v : Forms) (u : Arrays) : Type 0 where
  pub of_t : Beside n x v.T u.T
  pub of_s : Beside n x v.S u.S

calm_step2 : (n k e : ℕ) (x : ℕ → ℤ) → k * mass n x + e < 536870912 → (s : Step2) (v : Forms) (u : Arrays) → T (both (placed2 n s) (calm2 k e s v)) → Beside2 n x v u
    → (fits2 s u ≡ true) × Beside2 n x (weigh2 s v) (step2 s u)
unfolding placed2 weigh2 calm2 step2 fits2 apply_sb apply_sh
calm_step2 n k e x small (on s) v u h w =
    let r = calm_step n k e x small s v.T u.T h w.of_t in
    (r.0, record { of_t = r.1; of_s = w.of_s })
calm_step2 n k e x small (SB a b g flip) v u h w =
    let o = two n a b (b₁ (placed2 n (SB a b g flip)) true h) in
    let wa = w.of_t.each a o.la in
    let wb = w.of_t.each b o.lb in
    (refl, record { of_t = w.of_t; of_s = beside_pair a b flip w.of_s (w_turn_x n x g wa wb) (w_turn_y n x g wa wb) })
calm_step2 n k e x small (SH a b) v u h w =
    let o = two n a b (b₁ (placed2 n (SH a b)) (calm2 k e (SH a b) v) h) in
    let c = b₂ (placed2 n (SH a b)) (calm2 k e (SH a b) v) h in
    let wa = w.of_s.each a o.la in
    let wb = w.of_s.each b o.lb in
    let wx = w_round n x (w_add n x wa wb) in
    let wy = w_round n x (w_sub n x wa wb) in
    (lights_short n k e x small c wx wy, record { of_t = beside_two a b w.of_t wx wy; of_s = w.of_s })

-- S starts as zeros
abbrev pub units2 : ℕ → Forms
units2 n = record { T = units n; S = replicate n nil }

unfoldable pub mild2 : ℕ → ℕ → ℕ → List Step2 → Bool
mild2 n k e ss = both (leb 16384 k) (both (every (placed2 n) ss) (both (checks weigh2 (λ s v. both (placed2 n s) (calm2 k e s v)) ss (units2 n)) (ends n k e (run weigh2 ss (units2 n)).T)))

pub weights2 : (n k e : ℕ) (ss : List Step2) (t : List ℤ) → T (mild2 n k e ss) → n ≤ 16 → n ≤ length t → k * total n t + e < 536870912
    → (kept2 n ss (fresh t) ≡ true) × Reaches n k e t (run step2 ss (fresh t)).T
unfolding mild2 total fresh
weights2 n k e ss t h few room small =
    let x : ℕ → ℤ = λ i. get_or t i (pos 0) in
    let test : Step2 → Forms → Bool = λ s v. both (placed2 n s) (calm2 k e s v) in
    let last = ends n k e (run weigh2 ss (units2 n)).T in
    let walk = checks weigh2 test ss (units2 n) in
    let h₁ = b₁ (leb 16384 k) (both (every (placed2 n) ss) (both walk last)) h in
    let h₂ = b₂ (leb 16384 k) (both (every (placed2 n) ss) (both walk last)) h in
    let places = b₁ (every (placed2 n) ss) (both walk last) h₂ in
    let h₃ = b₂ (every (placed2 n) ss) (both walk last) h₂ in
    let begin : Beside2 n x (units2 n) (fresh t) = record { of_t = beside_units n t room; of_s = beside_zeros n 16 x few } in
    let r =
    checks_sound step2 (λ s u. fits2 s u ≡ true) weigh2 test (Beside2 n x) (calm_step2 n k e x small) ss (units2 n) (fresh t) (b₁ walk last h₃) begin in (
      kept2_fits n ss (fresh t) places room (start_short n k e t (leb→le 16384 k h₁) small) ∙ ok_passes step2 fits2 ss (fresh t) r.0,
      ends_reach n k e t (run step2 ss (fresh t)).T (run weigh2 ss (units2 n)).T (b₂ walk last h₃) r.1.of_t,
    )
