-- The code's signed expressions, as data. A signed local holds bits, so where the code names a local that holds z, a need has `to_z w (of_z w z)`, which is `rd w z` here.
-- A local, an element or a call's result z that is known to be within m is `loc b`, with b : Within m z; the bounds are numerals, so that `okay` computes.
use mathlib.Core.Path.{◌≡◌, refl, sym, ap, ap₂, ◌∙◌, subst}
use mathlib.Core.Bool.{Bool}
use Prim.Native.Nat.{ℕ, ◌+◌, ◌*◌, ◌^◌, ◌<◌}
use lib.Dec.{ltb, T, ltb→lt, leb, leb→le}
use lib.IntN.{ℤ, pos, neg_ℤ, nat_abs, ◌+ℤ◌, ◌-ℤ◌, ◌*ℤ◌}
use mir.Syntax.{Width}
use mir.Val.{hbits, to_z, of_z, SFits}
use Rattle.whole.proofs.Tests.{both, b₁, b₂}
use Rattle.whole.specs.Within.{Within}
use native.Mathlib.Omega.{arith}
use lib.Signed.{mag, shr_z}
use mir.Facts.{to_z-of_z}
use Rattle.whole.proofs.Parts.{zero_minus}
use Rattle.whole.proofs.Within.{within_abs, within_le, within_add, within_sub, within_neg, within_mul, within_shr, within_sfits, back}

abbrev pub rd : Width → ℤ → ℤ
rd w z = to_z w (of_z w z)

-- the code's term x is z, and z is within m
pub record Is (m : ℕ) (x z : ℤ) : Type 0 where
  pub eq : x ≡ z
  pub bd : Within m z

infixl 6 ◌⊕◌ ◌⊖◌
infixl 7 ◌⊗◌
pub data C : Type 0 where
  loc : {m : ℕ} {z : ℤ} → Within m z → C
  lit : ℤ → C
  ◌⊕◌ ◌⊖◌ ◌⊗◌ : C → C → C
  minus : C → C

-- what it is in ℤ, and a bound of it
abbrev pub val : C → ℤ
val (loc {z = z} b) = z
val (lit z) = z
val (e ⊕ f) = val e +ℤ val f
val (e ⊖ f) = val e -ℤ val f
val (e ⊗ f) = val e *ℤ val f
val (minus e) = neg_ℤ (val e)

abbrev pub bnd : C → ℕ
bnd (loc {m = m} b) = m
bnd (lit z) = nat_abs z
bnd (e ⊕ f) = bnd e + bnd f
bnd (e ⊖ f) = bnd e + bnd f
bnd (e ⊗ f) = bnd e * bnd f
bnd (minus e) = bnd e

-- as the machine has it: `raw` before the last step is written to a local, `code` read back from there
abbrev mutual
  pub raw : Width → C → ℤ
  raw w (loc {z = z} b) = z
  raw w (lit z) = z
  raw w (e ⊕ f) = code w e +ℤ code w f
  raw w (e ⊖ f) = code w e -ℤ code w f
  raw w (e ⊗ f) = code w e *ℤ code w f
  raw w (minus e) = pos 0 -ℤ code w e

  pub code : Width → C → ℤ
  code w (loc {z = z} b) = rd w z
  code w (lit z) = z
  code w (e ⊕ f) = rd w (code w e +ℤ code w f)
  code w (e ⊖ f) = rd w (code w e -ℤ code w f)
  code w (e ⊗ f) = rd w (code w e *ℤ code w f)
  code w (minus e) = rd w (pos 0 -ℤ code w e)

-- every step is within the width
abbrev pub okay : Width → C → Bool
okay w (loc {m = m} b) = ltb m (2 ^ hbits w)
okay w (lit z) = ltb (nat_abs z) (2 ^ hbits w)
okay w (e ⊕ f) = both (ltb (bnd e + bnd f) (2 ^ hbits w)) (both (okay w e) (okay w f))
okay w (e ⊖ f) = both (ltb (bnd e + bnd f) (2 ^ hbits w)) (both (okay w e) (okay w f))
okay w (e ⊗ f) = both (ltb (bnd e * bnd f) (2 ^ hbits w)) (both (okay w e) (okay w f))
okay w (minus e) = both (ltb (bnd e) (2 ^ hbits w)) (okay w e)

-- ---- What the machine computes at a signed width, against ℤ: `fits w e tt` answers the need of e's last operation, `value w e tt` says what e is, `bound w e tt` how large.
-- One test that antt computes, `okay w e`, shows that no step leaves the width.
-- the code's term is bounded too
pub is_bd : {m : ℕ} {x z : ℤ} → Is m x z → Within m x
is_bd {m} i = subst (λ (y : ℤ). Within m y) (sym i.eq) i.bd

-- a literal
pub is_lit : {m : ℕ} {z : ℤ} → Within m z → Is m z z
is_lit b = record { eq = refl; bd = b }

module _ (w : Width) where
  -- written to a local and read back
  pub is_rd : {m : ℕ} {x z : ℤ} → m < 2 ^ hbits w → Is m x z → Is m (rd w x) z
  is_rd h i = record { eq = back w h (is_bd i) ∙ i.eq; bd = i.bd }

  -- a parameter, an element or a call's result
  pub is_in : {m : ℕ} {z : ℤ} → m < 2 ^ hbits w → Within m z → Is m (rd w z) z
  is_in h b = is_rd h (is_lit b)

  pub is_ok : {m : ℕ} {x z : ℤ} → m < 2 ^ hbits w → Is m x z → SFits w x
  is_ok h i = within_sfits h (is_bd i)

-- the operations, before they are written
pub add : {m n : ℕ} {x y a b : ℤ} → Is m x a → Is n y b → Is (m + n) (x +ℤ y) (a +ℤ b)
add i j = record { eq = ap₂ (λ (u v : ℤ). u +ℤ v) i.eq j.eq; bd = within_add i.bd j.bd }

pub sub : {m n : ℕ} {x y a b : ℤ} → Is m x a → Is n y b → Is (m + n) (x -ℤ y) (a -ℤ b)
sub i j = record { eq = ap₂ (λ (u v : ℤ). u -ℤ v) i.eq j.eq; bd = within_sub i.bd j.bd }

pub mul : {m n : ℕ} {x y a b : ℤ} → Is m x a → Is n y b → Is (m * n) (x *ℤ y) (a *ℤ b)
mul i j = record { eq = ap₂ (λ (u v : ℤ). u *ℤ v) i.eq j.eq; bd = within_mul i.bd j.bd }

-- `-x`
pub neg : {m : ℕ} {x a : ℤ} → Is m x a → Is m (pos 0 -ℤ x) (neg_ℤ a)
neg {m} {x} {a} i = record { eq = zero_minus x ∙ ap neg_ℤ i.eq; bd = within_neg i.bd }

-- `x >> k`, at a bound that is a multiple of 2 ^ k
pub shr : (q k : ℕ) {x a : ℤ} → 0 < k → Is (q * k) x a → Is q (shr_z x k) (shr_z a k)
shr q k {x} {a} h i =
    record { eq = ap (λ (u : ℤ). shr_z u k) i.eq; bd = within_shr q k a h (omega (arith, i.bd.hi)) i.bd.lo }

-- a call's result, from its range `c.f.ok`, which is a bound on `mag`
pub rd_ok : (w : Width) {z : ℤ} → mag z < 2 ^ hbits w → rd w z ≡ z
rd_ok w h = to_z-of_z (record { sfits = h })

-- ---- whole expressions
module _ (w : Width) where
  top : (e : C) → T (okay w e) → bnd e < 2 ^ hbits w
  top (loc {m = m} b) t = ltb→lt m (2 ^ hbits w) t
  top (lit z) t = ltb→lt (nat_abs z) (2 ^ hbits w) t
  top (e ⊕ f) t = ltb→lt (bnd e + bnd f) (2 ^ hbits w) (b₁ (ltb (bnd e + bnd f) (2 ^ hbits w)) (both (okay w e) (okay w f)) t)
  top (e ⊖ f) t = ltb→lt (bnd e + bnd f) (2 ^ hbits w) (b₁ (ltb (bnd e + bnd f) (2 ^ hbits w)) (both (okay w e) (okay w f)) t)
  top (e ⊗ f) t = ltb→lt (bnd e * bnd f) (2 ^ hbits w) (b₁ (ltb (bnd e * bnd f) (2 ^ hbits w)) (both (okay w e) (okay w f)) t)
  top (minus e) t = ltb→lt (bnd e) (2 ^ hbits w) (b₁ (ltb (bnd e) (2 ^ hbits w)) (okay w e) t)

  left : (c e f : Bool) → T (both c (both e f)) → T e
  left c e f t = b₁ e f (b₂ c (both e f) t)

  right : (c e f : Bool) → T (both c (both e f)) → T f
  right c e f t = b₂ e f (b₂ c (both e f) t)

  pair : (e : C) → T (okay w e) → Is (bnd e) (raw w e) (val e) × Is (bnd e) (code w e) (val e)
  pair (loc {m = m} b) t = (is_lit b, is_in w (ltb→lt m (2 ^ hbits w) t) b)
  pair (lit z) t = let b : Within (nat_abs z) z = within_abs (omega arith) in (is_lit b, is_lit b)
  pair (e ⊕ f) t =
      let r =
      add (pair e (left (ltb (bnd e + bnd f) (2 ^ hbits w)) (okay w e) (okay w f) t)).1 (pair f (right (ltb (bnd e + bnd f) (2 ^ hbits w)) (okay w e) (okay w f) t)).1 in
      (r, is_rd w (top (e ⊕ f) t) r)
  pair (e ⊖ f) t =
      let r =
      sub (pair e (left (ltb (bnd e + bnd f) (2 ^ hbits w)) (okay w e) (okay w f) t)).1 (pair f (right (ltb (bnd e + bnd f) (2 ^ hbits w)) (okay w e) (okay w f) t)).1 in
      (r, is_rd w (top (e ⊖ f) t) r)
  pair (e ⊗ f) t =
      let r =
      mul (pair e (left (ltb (bnd e * bnd f) (2 ^ hbits w)) (okay w e) (okay w f) t)).1 (pair f (right (ltb (bnd e * bnd f) (2 ^ hbits w)) (okay w e) (okay w f) t)).1 in
      (r, is_rd w (top (e ⊗ f) t) r)
  pair (minus e) t = let r = neg (pair e (b₂ (ltb (bnd e) (2 ^ hbits w)) (okay w e) t)).1 in (r, is_rd w (top (minus e) t) r)

  pub fits : (e : C) → T (okay w e) → SFits w (raw w e)
  fits e t = is_ok w (top e t) (pair e t).0

  pub value : (e : C) → T (okay w e) → code w e ≡ val e
  value e t = (pair e t).1.eq

  pub bound : (e : C) → T (okay w e) → Within (bnd e) (code w e)
  bound e t = is_bd (pair e t).1

  -- within a larger numeral, as a callee asks
  pub within : (m : ℕ) (e : C) → T (okay w e) → T (leb (bnd e) m) → Within m (code w e)
  within m e t u = within_le (leb→le (bnd e) m u) (bound e t)
