-- The token law: dequantized and quantized again under either rule, a codeable token is given back, with one exception, which `givenBack` states.
use mathlib.Core.Path.{◌≡◌, refl, ap, ◌∙◌}
use mathlib.Core.Bool.{Bool, true, false}
use Prim.Native.Nat.{ℕ, zero, suc, min, ◌-◌, ◌*◌, ◌/◌, ◌%◌, ◌≤◌, ◌<◌}
use native.Mathlib.Omega.{arith}
use borrow.Author.Tests.{eqb-true, eqb-false, ne_eqb}
use lib.Dec.{eqb}
use lib.IntN.{ℤ, nat_abs}
use Rattle.answers.specs.Bad.{bad_quantizer}
use Rattle.answers.specs.Limits.{codeable}
use Rattle.answers.proofs.Passed.{quantizer}
use Rattle.quant.specs.Token.{dq_denom, dequant, rounded, with_sign, quantize, given_back}
use Rattle.quant.proofs.Floor.{rounded_is, short_most}
use Rattle.quant.proofs.Sign.{with_own_sign, dequant_sign, quantize_sign}

-- on magnitudes, under every rule: at the small sizes
small : (rule q t : ℕ) → 0 < q → rounded rule q (t * q / 1 * 1) ≡ t
small rule q t p = rounded_is rule q (t * q / 1 * 1) t (record { low = omega (arith, short_most rule); high = omega (arith, short_most rule) })

-- at 32 by 32, where halving the product loses at most a half
big : (rule q t : ℕ) → 2 ≤ q → rounded rule q (t * q / 2 * 2) ≡ t
big rule zero t p = absurd (omega arith)
big rule (suc zero) t p = absurd (omega arith)
big rule (suc (suc zero)) t p = rounded_is rule 2 (t * 2 / 2 * 2) t (record { low = omega (arith, short_most rule); high = omega (arith, short_most rule) })
big rule (suc (suc (suc k))) t p =
    rounded_is rule (suc (suc (suc k))) (t * suc (suc (suc k)) / 2 * 2) t (record { low = omega (arith, short_most rule); high = omega (arith, short_most rule) })

-- and under quantizer 1, where it loses the whole token of an odd one
one : (rule t : ℕ) → rounded rule 1 (t * 1 / 2 * 2) ≡ t - t % 2
one rule t = rounded_is rule 1 (t * 1 / 2 * 2) (t - t % 2) (record { low = omega (arith, short_most rule); high = omega (arith, short_most rule) })

-- what is given back, on magnitudes
abbrev kept : Bool → Bool → ℕ → ℕ
kept true true t = t - t % 2
kept true false t = t
kept false b t = t

kept_le : (a b : Bool) (t : ℕ) → kept a b t ≤ t
kept_le true true t = omega arith
kept_le true false t = omega arith
kept_le false b t = omega arith

magnitudes : (rule : ℕ) (a b : Bool) (size q t : ℕ) → eqb size 3 ≡ a → eqb q 1 ≡ b → 0 < q → rounded rule q (t * q / dq_denom size * dq_denom size) ≡ kept a b t
magnitudes rule true true size q t e f p = rw (e, eqb-true q 1 f) (one rule t)
magnitudes rule true false size q t e f p = rw e (big rule q t (omega (arith, eqb-false q 1 f)))
magnitudes rule false b size q t e f p = rw e (small rule q t p)

same : (a b c : Bool) (size : ℕ) (q t : ℤ) → eqb size 3 ≡ a → eqb (nat_abs q) 1 ≡ b → eqb (nat_abs t % 2) 1 ≡ c → with_sign t (kept a b (nat_abs t)) ≡ given_back size q t
unfolding given_back
same true true true size q t e f g = rw (e, f, g) (rw (eqb-true (nat_abs t % 2) 1 g))
same true true false size q t e f g = rw (e, f, g) (let h : nat_abs t - nat_abs t % 2 ≡ nat_abs t = omega (arith, eqb-false (nat_abs t % 2) 1 g) in rw h (with_own_sign t))
same true false c size q t e f g = rw (e, f) (with_own_sign t)
same false b c size q t e f g = rw e (with_own_sign t)

-- at any cap that the token keeps
pub token_law_cap : (rule size cap : ℕ) (q token : ℤ) → bad_quantizer q ≡ false → nat_abs token ≤ cap
    → quantize rule size cap q (dequant size q token) ≡ given_back size q token
token_law_cap rule size cap q t h l =
    let g = quantizer q h in
    let n = nat_abs q in
    let a = eqb size 3 in
    let b = eqb n 1 in
    let e : dequant size q t ≡ with_sign t (nat_abs t * n / dq_denom size) = rw g.is (dequant_sign size n t) in
    let k = kept_le a b (nat_abs t) in
    let f : min cap (rounded rule n (nat_abs t * n / dq_denom size * dq_denom size)) ≡ kept a b (nat_abs t) = omega (arith, magnitudes rule a b size n (nat_abs t) refl refl g.least) in
    ap (quantize rule size cap q) e ∙ quantize_sign rule size cap q t (nat_abs t * n / dq_denom size) g.least ∙ ap (with_sign t) f
    ∙ same a b (eqb (nat_abs t % 2) 1) size q t refl refl refl

-- THE TOKEN LAW, under every rule
pub token_law : (rule size depth : ℕ) (q token : ℤ) → bad_quantizer q ≡ false → nat_abs token ≤ codeable depth
    → quantize rule size (codeable depth) q (dequant size q token) ≡ given_back size q token
token_law rule size depth = token_law_cap rule size (codeable depth)

-- the exception aside, the token itself
pub given_back_small : (size : ℕ) (q token : ℤ) → (size ≡ 3 → ⊥) → given_back size q token ≡ token
unfolding given_back
given_back_small size q t h = rw (ne_eqb size 3 h)

pub given_back_coarse : (size : ℕ) (q token : ℤ) → 2 ≤ nat_abs q → given_back size q token ≡ token
unfolding given_back
given_back_coarse size q t h = go (eqb size 3) refl
  where
    go : (b : Bool) → eqb size 3 ≡ b → given_back size q t ≡ t
    go true e = rw (e, ne_eqb (nat_abs q) 1 (λ (f : nat_abs q ≡ 1). absurd (omega arith)))
    go false e = rw e

pub given_back_even : (size : ℕ) (q token : ℤ) → nat_abs token % 2 ≡ 0 → given_back size q token ≡ token
unfolding given_back
given_back_even size q t h = go (eqb size 3) (eqb (nat_abs q) 1) refl refl
  where
    go : (b c : Bool) → eqb size 3 ≡ b → eqb (nat_abs q) 1 ≡ c → given_back size q t ≡ t
    go true true e f = rw (e, f, ne_eqb (nat_abs t % 2) 1 (λ (g : nat_abs t % 2 ≡ 1). absurd (omega arith)))
    go true false e f = rw (e, f)
    go false c e f = rw e
