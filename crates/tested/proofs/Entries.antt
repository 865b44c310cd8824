-- What an entry asks, and what the leaf that it calls tells of its step.
use mathlib.Core.Path.{◌≡◌, sym, ap}
use mathlib.Core.Bool.{Bool, true, false, ◌&&◌}
use mathlib.Core.List.{List}
use Prim.Native.Nat.{ℕ, ◌≤◌, ◌<◌}
use lib.Dec.{T, leb, ltb, lit<, leb→le, ltb→lt}
use lib.IntN.{ℤ}
use mir.Syntax.{w32}
use Rattle.whole.proofs.Signed.{rd}
use Rattle.whole.proofs.Within.{back}
use Rattle.primitives.specs.Rotations.{apply_h}
use Rattle.steps.specs.Step.{Hd, Move, step}
use Rattle.steps.specs.Step2.{Arrays, Step2, on, step2}
use Rattle.adst.specs.Inner.{arrays}
use Rattle.narrow.specs.Inner.{Turns, fits, fits2}
use Rattle.narrow.proofs.Angles.{Angle, turns}
use Rattle.narrow.proofs.Safe.{told_T, free_move}
use Rattle.tested.specs.Inner.{OfAngle, known, step_of, ready, Told}
use Rattle.tested.specs.declared.Step.{Step}
use Rattle.tested.specs.declared.Step.TheVariants.{Turn, Sums, Products, SumsOfS, Negate, Enter, Leave, Wht}
use Rattle.tested.proofs.Lists.{t₁, t₂}

-- ---- what a step asks
places : (a b m : ℕ) → T (ltb a m && ltb b m) → (a < m) × (b < m)
places a b m h = (ltb→lt a m (t₁ (ltb a m) (ltb b m) h), ltb→lt b m (t₂ (ltb a m) (ltb b m) h))

adst_size : (n : ℕ) → T (leb 3 n && leb n 4) → (3 ≤ n) × (n ≤ 4)
adst_size n q = (leb→le 3 n (t₁ (leb 3 n) (leb n 4) q), leb→le n 4 (t₂ (leb 3 n) (leb n 4) q))

module _ (n : ℕ) {e : Step} (h : T (ready n e)) where
  pub turn_asks : {a b : ℕ} {g : ℤ} {f : Bool} → e ≡ Turn a b g f → (a < 32) × (b < 32) × T (known g)
  unfolding ready
  turn_asks {a} {b} {g} q =
      let k : T ((ltb a 32 && ltb b 32) && known g) = rw q at h in
      let p = places a b 32 (t₁ (ltb a 32 && ltb b 32) (known g) k) in
      (p.0, p.1, t₂ (ltb a 32 && ltb b 32) (known g) k)

  pub sums_ask : {a b : ℕ} {f : Bool} → e ≡ Sums a b f → (a < 32) × (b < 32)
  unfolding ready
  sums_ask {a} {b} q = places a b 32 (rw q at h)

  pub products_ask : {a b : ℕ} {g : ℤ} → e ≡ Products a b g → (a < 16) × (b < 16) × T (known g)
  unfolding ready
  products_ask {a} {b} {g} q =
      let k : T ((ltb a 16 && ltb b 16) && known g) = rw q at h in
      let p = places a b 16 (t₁ (ltb a 16 && ltb b 16) (known g) k) in
      (p.0, p.1, t₂ (ltb a 16 && ltb b 16) (known g) k)

  pub sums_of_s_ask : {a b : ℕ} → e ≡ SumsOfS a b → (a < 16) × (b < 16)
  unfolding ready
  sums_of_s_ask {a} {b} q = places a b 16 (rw q at h)

  pub negate_asks : {a : ℕ} → e ≡ Negate a → a < 32
  unfolding ready
  negate_asks {a} q = ltb→lt a 32 (rw q at h)

  pub enter_asks : e ≡ Enter → (3 ≤ n) × (n ≤ 4)
  unfolding ready
  enter_asks q = adst_size n (rw q at h)

  pub leave_asks : e ≡ Leave → (3 ≤ n) × (n ≤ 4)
  unfolding ready
  leave_asks q = adst_size n (rw q at h)

  pub shift_asks : {k : ℕ} → e ≡ Wht k → k ≤ 2
  unfolding ready
  shift_asks {k} q = leb→le k 2 (rw q at h)

pub step_is : (n : ℕ) {e x : Step} → e ≡ x → step_of n e ≡ step_of n x
step_is n q = ap (step_of n) q

-- H exchanged is H of the places exchanged
pub flip_told : (a b : ℕ) (t : List ℤ) {r : Bool} {u : List ℤ} → Told step fits (Hd b a false) t r u → Told step fits (Hd a b true) t r u
unfolding step apply_h fits
flip_told a b t o = o

-- ---- a cosine and a sine as the code has them
module _ {g cos sin : ℤ} (h : OfAngle g cos sin) where
  pub angle_is : Angle g cos sin
  angle_is = record { cos_is = h.cos_is; sin_is = h.sin_is }

  pub cos_rd : rd w32 cos ≡ cos
  cos_rd = back w32 (lit< tt) (turns angle_is {a = 0} {b = 0} (lit< tt) (lit< tt)).2

  pub sin_rd : rd w32 sin ≡ sin
  sin_rd = back w32 (lit< tt) (turns angle_is {a = 0} {b = 0} (lit< tt) (lit< tt)).3

  pub may_turn : {a b : ℕ} → a < 32 → b < 32 → Turns a b (rd w32 cos) (rd w32 sin)
  may_turn p q = rw (cos_rd, sin_rd) (turns angle_is p q)

-- ---- a permutation fits
pub move_told : (s : Step2) (k : ℕ) (f : ℕ → ℕ) (v : Arrays) {u : List ℤ} → s ≡ on (Move k f) → u ≡ step (Move k f) v.T → Told step2 fits2 s v true (arrays u v.S)
move_told s k f v e o = told_T s v e (sym (free_move k f v.T), λ _. o)
