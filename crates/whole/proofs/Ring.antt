-- An expression over ℤ as a formal difference: `ev e` is its value, `pp e` and `pn e` are sums of products of its atoms' parts.
use Prim.Native.Nat.{ℕ, ◌+◌, ◌*◌, ◌^◌, ◌≤◌, ◌<◌}
use lib.IntN.{ℤ, neg_ℤ, ◌+ℤ◌, ◌-ℤ◌, ◌*ℤ◌}
use Rattle.whole.specs.Parts.{P, N}
use mathlib.Core.Path.{◌≡◌, ap}
use native.Mathlib.Omega.{arith}
use mir.Syntax.{Width}
use mir.Val.{SFits, hbits}
use Rattle.whole.proofs.Parts.{sum_parts, neg_P, neg_N, mul_P, mul_N, eq_parts}
use Rattle.whole.proofs.Within.{sfits_parts}

infixl 6 ◌⊕◌ ◌⊖◌
infixl 7 ◌⊗◌
pub data E : Type 0 where
  at : ℤ → E
  ◌⊕◌ ◌⊖◌ ◌⊗◌ : E → E → E
  neg : E → E

abbrev pub ev : E → ℤ
ev (at z) = z
ev (e ⊕ f) = ev e +ℤ ev f
ev (e ⊖ f) = ev e -ℤ ev f
ev (e ⊗ f) = ev e *ℤ ev f
ev (neg e) = neg_ℤ (ev e)

abbrev mutual
  pub pp : E → ℕ
  pp (at z) = P z
  pp (e ⊕ f) = pp e + pp f
  pp (e ⊖ f) = pp e + pn f
  pp (e ⊗ f) = pp e * pp f + pn e * pn f
  pp (neg e) = pn e

  pub pn : E → ℕ
  pn (at z) = N z
  pn (e ⊕ f) = pn e + pn f
  pn (e ⊖ f) = pn e + pp f
  pn (e ⊗ f) = pp e * pn f + pn e * pp f
  pn (neg e) = pp e

-- ---- Ring identities and widths over ℤ, by `omega` on formal differences. A goal is stated by its two expressions, and `omega arith` multiplies out what is left (at most 64 products).
-- an expression's value is the difference
prod : (Pa Na Pb Nb pa na pb nb : ℕ) → Pa + na ≡ Na + pa → Pb + nb ≡ Nb + pb
    → (Pa * Pb + Na * Nb) + (pa * nb + na * pb) ≡ (Pa * Nb + Na * Pb) + (pa * pb + na * nb)
prod Pa Na Pb Nb pa na pb nb h k =
    omega (arith, ap (λ (x : ℕ). x * Pb) h, ap (λ (x : ℕ). x * Nb) h, ap (λ (x : ℕ). pa * x) k, ap (λ (x : ℕ). na * x) k)

pub sound : (e : E) → P (ev e) + pn e ≡ N (ev e) + pp e
sound (at z) = omega arith
sound (e ⊕ f) = omega (arith, sum_parts (ev e) (ev f), sound e, sound f)
sound (e ⊖ f) = omega (arith, sum_parts (ev e) (neg_ℤ (ev f)), neg_P (ev f), neg_N (ev f), sound e, sound f)
sound (e ⊗ f) =
    omega (arith, mul_P (ev e) (ev f), mul_N (ev e) (ev f), prod (P (ev e)) (N (ev e)) (P (ev f)) (N (ev f)) (pp e) (pn e) (pp f) (pn f) (sound e) (sound f))
sound (neg e) = omega (arith, neg_P (ev e), neg_N (ev e), sound e)

pub ring : (e f : E) → pp e + pn f ≡ pp f + pn e → ev e ≡ ev f
ring e f h = eq_parts (ev e) (ev f) (omega (arith, sound e, sound f))

pub sfits_by : (w : Width) (e : E) → pp e < pn e + 2 ^ hbits w → pn e ≤ pp e + 2 ^ hbits w → SFits w (ev e)
sfits_by w e h k = sfits_parts w (ev e) (omega (arith, sound e)) (omega (arith, sound e))
