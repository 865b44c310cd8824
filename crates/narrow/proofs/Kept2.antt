-- The condition over T and S: S does not count, but what SB puts there is bounded, so that SH's sums are of 32 bits.
use mathlib.Core.Path.{◌≡◌, sym, ◌∙◌}
use mathlib.Core.Bool.{Bool, true, false, not}
use mathlib.Core.List.{List, [], ◌∷◌}
use Prim.Native.Nat.{ℕ, zero, suc, ◌≤◌, ◌<◌}
use native.Mathlib.Omega.{arith}
use lib.Dec.{T, ltb, eqb}
use lib.IntN.{ℤ, pos, ◌+ℤ◌, ◌-ℤ◌}
use lib.ListN.{length, get_or, set, length-set}
use Rattle.whole.specs.Round.{Round2}
use Rattle.whole.specs.Within.{Within}
use Rattle.whole.specs.Inner.{AllWithin, Ok, none, next}
use Rattle.whole.proofs.Tests.{both, b₁, b₂}
use Rattle.primitives.specs.Rotations.{set_pair, apply_sb, apply_sh, turn_x, turn_y}
use Rattle.steps.specs.Step2.{Arrays, Step2, on, SB, SH, step2}
use Rattle.steps.proofs.Places.{every, step_stays}
use Rattle.narrow.specs.Kept.{shorts, kept2}
use Rattle.narrow.specs.Inner.{fits2, passes, reach, Fine216}
use Rattle.narrow.proofs.Short.{and_left, and_right, short_within}
use Rattle.narrow.proofs.Kept.{always_start, always_passes, shorts_at, set_two, placed, placed_writes, fine_here, step_shorts, two}
use Rattle.narrow.proofs.Reach.{reach_x, reach_y}

unfoldable pub placed2 : ℕ → Step2 → Bool
placed2 n (on s) = placed n s
placed2 n (SB a b g f) = both (both (ltb a n) (ltb b n)) (not (eqb a b))
placed2 n (SH a b) = both (both (ltb a n) (ltb b n)) (not (eqb a b))

-- T has its places and is of 16 bits, S is bounded
pub record Good2 (n : ℕ) (u : Arrays) : Type 0 where
  pub long : n ≤ length u.T
  pub low : shorts n u.T ≡ true
  pub near : AllWithin reach u.S

set_near : {m : ℕ} (l : List ℤ) (i : ℕ) (v : ℤ) → ((k : ℕ) → Within m (get_or l k (pos 0))) → Within m v → (k : ℕ) → Within m (get_or (set l i v) k (pos 0))
set_near [] i v h b k = h k
set_near (z ∷ zs) zero v h b zero = b
set_near (z ∷ zs) zero v h b (suc k) = h (suc k)
set_near (z ∷ zs) (suc i) v h b zero = h zero
set_near (z ∷ zs) (suc i) v h b (suc k) = set_near zs i v (λ j. h (suc j)) b k

pub two_near : {m : ℕ} (l : List ℤ) (a b : ℕ) (x y : ℤ) → AllWithin m l → Within m x → Within m y → AllWithin m (set (set l a x) b y)
two_near l a b x y h p q = record { each = set_near (set l a x) b y (set_near l a x h.each p) q }

at_within : (n : ℕ) (t : List ℤ) → shorts n t ≡ true → (i : ℕ) → i < n → Within 32768 (get_or t i (pos 0))
at_within n t e i l = short_within (shorts_at n t e i l)

step2_shorts : (n : ℕ) (s : Step2) (u : Arrays) → T (placed2 n s) → n ≤ length u.T → shorts n u.T ≡ true → (shorts n (step2 s u).T ≡ fits2 s u) × (n ≤ length (step2 s u).T)
unfolding placed2 step2 fits2 apply_sh
step2_shorts n (on s) u h m e = (step_shorts n s u.T h m e, rw (step_stays n s u.T (placed_writes n s h)).long m)
step2_shorts n (SB a b g f) u h m e = (e, m)
step2_shorts n (SH a b) u h m e =
    let w = two n a b h in
    let t = u.T in
    let x = get_or u.S a (pos 0) in
    let y = get_or u.S b (pos 0) in
    let p = Round2 (x +ℤ y) 14 in
    let q = Round2 (x -ℤ y) 14 in
    (set_two n t m a b p q w.la w.lb w.ne e, rw (length-set (set t a p) b q, length-set t a p) m)

step2_near : (n : ℕ) (s : Step2) (u : Arrays) → T (placed2 n s) → Good2 n u → AllWithin reach (step2 s u).S
unfolding placed2 step2 apply_sb set_pair
step2_near n (on s) u h g = g.near
step2_near n (SB a b z false) u h g =
    let w = two n a b h in
    let p = at_within n u.T g.low a w.la in
    let q = at_within n u.T g.low b w.lb in
    two_near u.S a b (turn_x (get_or u.T a (pos 0)) (get_or u.T b (pos 0)) z) (turn_y (get_or u.T a (pos 0)) (get_or u.T b (pos 0)) z) g.near (reach_x z p q) (reach_y z p q)
step2_near n (SB a b z true) u h g =
    let w = two n a b h in
    let p = at_within n u.T g.low a w.la in
    let q = at_within n u.T g.low b w.lb in
    two_near u.S a b (turn_y (get_or u.T a (pos 0)) (get_or u.T b (pos 0)) z) (turn_x (get_or u.T a (pos 0)) (get_or u.T b (pos 0)) z) g.near (reach_y z p q) (reach_x z p q)
step2_near n (SH a b) u h g = g.near

-- a step that fits leaves it so
pub step2_good : (n : ℕ) (s : Step2) (u : Arrays) → T (placed2 n s) → Good2 n u → fits2 s u ≡ true → Good2 n (step2 s u)
step2_good n s u h g e =
    let o = step2_shorts n s u h g.long g.low in
    record { long = o.1; low = o.0 ∙ e; near = step2_near n s u h g }

-- the condition is the test of each step
pub kept2_fits : (n : ℕ) (ss : List Step2) (u : Arrays) → T (every (placed2 n) ss) → n ≤ length u.T → shorts n u.T ≡ true → kept2 n ss u ≡ passes step2 fits2 ss u
unfolding kept2
kept2_fits n ss u h m e = always_passes step2 (λ v. shorts n v.T) fits2 (λ v. n ≤ length v.T) (placed2 n) (step2_shorts n) ss u h m e

pub kept2_here : (n : ℕ) (ss : List Step2) (u : Arrays) → kept2 n ss u ≡ true → shorts n u.T ≡ true
unfolding kept2
kept2_here n ss u e = always_start step2 (λ v. shorts n v.T) ss u e

-- what the leaves ask; SB and SH are of places below 16
pub fine2_here : (n : ℕ) → n ≤ 16 → (s : Step2) (u : Arrays) → T (placed2 n s) → Good2 n u → fits2 s u ≡ true → Fine216 s u
unfolding placed2 fits2
fine2_here n l (on s) u h g e = fine_here n s u.T (omega arith) h e
fine2_here n l (SB a b z f) u h g e = let w = two n a b h in (omega (arith, w.la), omega (arith, w.lb))
fine2_here n l (SH a b) u h g e = let w = two n a b h in (omega (arith, w.la), omega (arith, w.lb), g.near.each a, g.near.each b, e)

fits2_ok : (n : ℕ) → n ≤ 16 → (ss : List Step2) (u : Arrays) → T (every (placed2 n) ss) → Good2 n u → passes step2 fits2 ss u ≡ true → Ok step2 Fine216 ss u
unfolding every passes
fits2_ok n l [] u h g e = none
fits2_ok n l (s ∷ ss) u h g e =
    let p = b₁ (placed2 n s) (every (placed2 n) ss) h in
    let f = and_left (fits2 s u) (passes step2 fits2 ss (step2 s u)) e in
    next (fine2_here n l s u p g f)
    (fits2_ok n l ss (step2 s u) (b₂ (placed2 n s) (every (placed2 n) ss) h) (step2_good n s u p g f) (and_right (fits2 s u) (passes step2 fits2 ss (step2 s u)) e))

pub kept2_ok : (n : ℕ) → n ≤ 16 → (ss : List Step2) (u : Arrays) → T (every (placed2 n) ss) → n ≤ length u.T → AllWithin reach u.S → kept2 n ss u ≡ true → Ok step2 Fine216 ss u
kept2_ok n l ss u h m a e =
    let k = kept2_here n ss u e in
    fits2_ok n l ss u h (record { long = m; low = k; near = a }) (sym (kept2_fits n ss u h m k) ∙ e)
