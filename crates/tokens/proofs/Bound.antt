-- How far a token may go under a quantizer: one bound for the token's limit and the coefficient's.
use mathlib.Core.Path.{◌≡◌, refl, sym, ap, ◌∙◌}
use mathlib.Core.Bool.{Bool, true, false, ◌||◌}
use Prim.Native.Nat.{ℕ, min, ◌+◌, ◌-◌, ◌*◌, ◌/◌, ◌<◌}
use native.Mathlib.Decide.{dec_lt}
use native.Mathlib.Nat as NatL
use native.Mathlib.Omega.{arith}
use borrow.Author.Tests.{lt-ltb, le-ltb}
use lib.Dec.{ltb, eqb}
use lib.IntN.{ℤ, nat_abs}
use Rattle.answers.specs.Limits.{COEF_LIMIT}
use Rattle.answers.specs.Bad.{bad_quantizer}
use Rattle.answers.proofs.Passed.{quantizer}
use Rattle.quant.specs.Token.{dq_denom}
use Rattle.tokens.specs.Inner.{Bounds}

-- two tests that say the same
same_test : (a b c d : ℕ) → (a < b → c < d) → (c < d → a < b) → ltb a b ≡ ltb c d
same_test a b c d f g = go (dec_lt a b) (dec_lt c d)
  where
    go : Dec (a < b) → Dec (c < d) → ltb a b ≡ ltb c d
    go (yes h) (yes l) = lt-ltb a b h ∙ sym (lt-ltb c d l)
    go (yes h) (no l) = absurd (l (f h))
    go (no h) (yes l) = absurd (h (g l))
    go (no h) (no l) = le-ltb a b (omega arith) ∙ sym (le-ltb c d (omega arith))

-- beyond the limit after the division and before it
over : (size x : ℕ) → ltb COEF_LIMIT (x / dq_denom size) ≡ ltb (COEF_LIMIT * dq_denom size + (dq_denom size - 1)) x
over size x = go (eqb size 3) refl
  where
    go : (b : Bool) → eqb size 3 ≡ b → ltb COEF_LIMIT (x / dq_denom size) ≡ ltb (COEF_LIMIT * dq_denom size + (dq_denom size - 1)) x
    go true e = rw e (same_test COEF_LIMIT (x / 2) (COEF_LIMIT * 2 + 1) x (λ h. omega arith) (λ h. omega arith))
    go false e = rw e (same_test COEF_LIMIT (x / 1) (COEF_LIMIT * 1 + 0) x (λ h. omega arith) (λ h. omega arith))

-- beyond the nearer of two limits is beyond one of them
nearer : (a b m : ℕ) → ltb (min a b) m ≡ ltb a m || ltb b m
nearer a b m = go (dec_lt a m) (dec_lt b m)
  where
    go : Dec (a < m) → Dec (b < m) → ltb (min a b) m ≡ ltb a m || ltb b m
    go (yes h) l = rw (lt-ltb a m h) (lt-ltb (min a b) m (omega arith))
    go (no h) (yes l) = rw (le-ltb a m (omega arith)) (lt-ltb (min a b) m (omega arith) ∙ sym (lt-ltb b m l))
    go (no h) (no l) = rw (le-ltb a m (omega arith)) (le-ltb (min a b) m (omega arith) ∙ sym (le-ltb b m (omega arith)))

-- the bound that the code takes
pub bounds : (size most : ℕ) (q : ℤ) → bad_quantizer q ≡ false → Bounds size q most (min most ((COEF_LIMIT * dq_denom size + (dq_denom size - 1)) / nat_abs q))
bounds size most q h = record { tells = λ m. nearer most (top / nat_abs q) m ∙ ap (λ (b : Bool). ltb most m || b) (exact m ∙ sym (over size (m * nat_abs q))) }
  where
    top : ℕ
    top = COEF_LIMIT * dq_denom size + (dq_denom size - 1)

    exact : (m : ℕ) → ltb (top / nat_abs q) m ≡ ltb top (m * nat_abs q)
    exact m = same_test (top / nat_abs q) m top (m * nat_abs q)
        (λ l. (NatL.div-lt_iff_lt-mul (quantizer q h).least).0 l) (λ l. (NatL.div-lt_iff_lt-mul (quantizer q h).least).1 l)
