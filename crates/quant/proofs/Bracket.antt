-- Nearness on magnitudes. A token is nearest because it brackets the coefficient, by half a quantizer on either side; which one is taken of two that are
-- equally near is a question apart. `big` is 32 by 32, where the coefficient is doubled and the token's value halved.
use mathlib.Core.Path.{◌≡◌, refl, ap}
use mathlib.Core.Bool.{Bool, true, false, cond}
use mathlib.Core.Logic.{◌⊎◌, inl, inr, ⊎_elim}
use Prim.Native.Nat.{ℕ, zero, suc, min, ◌+◌, ◌-◌, ◌*◌, ◌/◌, ◌%◌, ◌≤◌, ◌<◌}
use native.Mathlib.Nat as NatL
use native.Mathlib.Decide.{dec_lt}
use native.Mathlib.Omega.{arith}
use Rattle.quant.proofs.Floor.{Floor, floor}

-- how far two magnitudes are apart
abbrev pub gap : ℕ → ℕ → ℕ
gap x y = (x - y) + (y - x)

-- t × q is no more than half of q above x, and, where a greater token can be coded, no more than half of q below it
pub record Bracket (q most x t : ℕ) : Type 0 where
  pub coded : t ≤ most
  pub low : t * (2 * q) ≤ 2 * x + q
  pub high : t < most → 2 * x ≤ t * (2 * q) + q

-- of two that are equally near the smaller: t × q is less than half of q above x
abbrev pub Toward : ℕ → ℕ → ℕ → Type 0
Toward q x t = t * (2 * q) < 2 * x + q

-- of two that are equally near the greater, where it can be coded: t × q is less than half of q below x
abbrev pub Away : ℕ → ℕ → ℕ → ℕ → Type 0
Away q most x t = t < most → 2 * x < t * (2 * q) + q

-- a rounded quotient, cut at the cap, brackets, wherever a half goes: r = 1 takes it toward zero, r = 0 away
pub bracket : (r q most x : ℕ) → r ≤ 1 → 0 < q → Bracket q most x (min most ((2 * x + (q - r)) / (2 * q)))
bracket r q most x h p = go (dec_lt f most)
  where
    f : ℕ
    f = (2 * x + (q - r)) / (2 * q)

    sides : Floor (2 * x + (q - r)) (2 * q) f
    sides = floor (2 * x + (q - r)) (2 * q) (omega arith)

    go : Dec (f < most) → Bracket q most x (min most f)
    go (yes l) =
        let e : min most f ≡ f = omega arith in
        rw e (record { coded = omega arith; low = omega (arith, sides.low); high = λ _. omega (arith, sides.high) })
    go (no l) =
        let e : min most f ≡ most = omega arith in
        let k : most * (2 * q) ≤ f * (2 * q) = NatL.mul-le-mul_right (2 * q) (omega arith) in
        rw e (record { coded = omega arith; low = omega (arith, sides.low); high = λ l. absurd (omega arith) })

-- and with r = 1 it is the smaller of two
pub toward : (q most x : ℕ) → 0 < q → Toward q x (min most ((2 * x + (q - 1)) / (2 * q)))
toward q most x p =
    let f = (2 * x + (q - 1)) / (2 * q) in
    let k : min most f * (2 * q) ≤ f * (2 * q) = NatL.mul-le-mul_right (2 * q) (omega arith) in
    omega (arith, (floor (2 * x + (q - 1)) (2 * q) (omega arith)).low)

-- with r = 0 the greater
pub away : (q most x : ℕ) → 0 < q → Away q most x (min most ((2 * x + (q - 0)) / (2 * q)))
away q most x p l =
    let f = (2 * x + (q - 0)) / (2 * q) in
    let e : min most f ≡ f = omega arith in
    rw e (omega (arith, (floor (2 * x + (q - 0)) (2 * q) (omega arith)).high))

-- ---- what brackets is nearest
-- the multiples of an even quantizer are even
parity : (q t : ℕ) → (q % 2 ≡ 1) ⊎ (t * q % 2 ≡ 0)
parity q t = go (q % 2) refl
  where
    go : (m : ℕ) → q % 2 ≡ m → (q % 2 ≡ 1) ⊎ (t * q % 2 ≡ 0)
    go zero e = let f : q ≡ 2 * (q / 2) = omega arith in let g = ap (λ (x : ℕ). t * x) f in inr (omega arith)
    go (suc m) e = inl (omega arith)

-- than a greater token
above : (big : Bool) (q most a t s : ℕ) → Bracket q most (a * cond big 2 1) t → s ≤ most → t < s → gap a (t * q / cond big 2 1) ≤ gap a (s * q / cond big 2 1)
above false q most a t s b l k = omega (arith, NatL.mul-le-mul_right q k, b.high (omega arith))
above true q most a t s b l k =
    ⊎_elim (λ (e : q % 2 ≡ 1). omega (arith, NatL.mul-le-mul_right q k, b.high (omega arith)))
    (λ (e : t * q % 2 ≡ 0). omega (arith, NatL.mul-le-mul_right q k, b.high (omega arith))) (parity q t)

-- than a smaller one
below : (big : Bool) (q most a t s : ℕ) → Bracket q most (a * cond big 2 1) t → s < t → gap a (t * q / cond big 2 1) ≤ gap a (s * q / cond big 2 1)
below false q most a t s b k = omega (arith, NatL.mul-le-mul_right q k, b.low)
below true q most a t s b k = omega (arith, NatL.mul-le-mul_right q k, b.low)

order : (t s : ℕ) → Dec (s < t) → Dec (t < s) → (X : Type 0) → (s < t → X) → (t < s → X) → (t ≡ s → X) → X
order t s (yes h) d X f g e = f h
order t s (no h) (yes k) X f g e = g k
order t s (no h) (no k) X f g e = e (omega arith)

pub nearer : (big : Bool) (q most a t s : ℕ) → Bracket q most (a * cond big 2 1) t → s ≤ most → gap a (t * q / cond big 2 1) ≤ gap a (s * q / cond big 2 1)
nearer big q most a t s b l =
    order t s (dec_lt s t) (dec_lt t s) (gap a (t * q / cond big 2 1) ≤ gap a (s * q / cond big 2 1))
    (λ k. below big q most a t s b k)
    (λ k. above big q most a t s b l k)
    (λ e. NatL.le_of_eq (ap (λ (u : ℕ). gap a (u * q / cond big 2 1)) e))

-- ---- the tie: where a half goes toward zero, a smaller token is farther. Under quantizer 1 at 32 by 32 an odd token has the value of the even one below it,
-- so there the token has to be even
pub farther : (big : Bool) (q a t s : ℕ) → 0 < q → Toward q (a * cond big 2 1) t → (big ≡ true → q ≡ 1 → t % 2 ≡ 0) → s < t
    → gap a (t * q / cond big 2 1) < gap a (s * q / cond big 2 1)
farther false q a t s p w v k = omega (arith, NatL.mul-le-mul_right q k)
farther true zero a t s p w v k = absurd (omega arith)
farther true (suc zero) a t s p w v k = omega (arith, v refl refl)
farther true (suc (suc q)) a t s p w v k = omega (arith, NatL.mul-le-mul_right (suc (suc q)) k)

-- which it is, as the formula gives it, where the cap is even
pub even_choice : (most a : ℕ) → most % 2 ≡ 0 → min most ((2 * (a * 2) + (1 - 1)) / (2 * 1)) % 2 ≡ 0
even_choice most a h = omega arith

-- where a half goes away from zero, at the small sizes, a greater token is farther
pub farther_above : (q most a t s : ℕ) → 0 < q → Away q most a t → s ≤ most → t < s → gap a (t * q) < gap a (s * q)
farther_above q most a t s p w l k = omega (arith, NatL.mul-le-mul_right q k, w (omega arith))
