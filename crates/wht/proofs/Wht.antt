-- Laws of the inverse WHT: entries from 4 on stay, zeros stay zeros, at shift 0 it is its own inverse, four times a row at shift 2 is the row at shift 0.
use mathlib.Core.Path.{◌≡◌, refl, sym, ◌∙◌}
use mathlib.Core.List.{List, [], ◌∷◌}
use Prim.Native.Nat.{ℕ, zero, suc, ◌+◌, ◌^◌, ◌≤◌, ◌<◌}
use native.Mathlib.Omega.{arith}
use lib.IntN.{ℤ, pos, ◌+ℤ◌, ◌-ℤ◌, ◌*ℤ◌}
use lib.ListN.{length, get_or}
use lib.Signed.{shr_z}
use Rattle.whole.specs.Parts.{P, N}
use Rattle.whole.proofs.Ring.{E, at, ◌⊕◌, ◌⊖◌, ev, sound, ring}
use Rattle.whole.specs.Steps.{run}
use Rattle.whole.proofs.Parts.{apart, eq_parts, mul_P, mul_N, shr_low, shr_high}
use Rattle.steps.specs.Step.{step, halfway, wht4}
use Rattle.steps.proofs.Places.{writes, every, Stays, steps_stay}
use Rattle.steps.proofs.Shapes.{Zeros, shape, zeros_stay}
use Rattle.wht.specs.Wht.{wht_row, wht}

-- entries from 4 on stay, and the length
pub wht_stays : (k : ℕ) (t : List ℤ) → Stays 4 t (wht k t)
unfolding wht wht_row every writes
wht_stays k t = steps_stay 4 (wht_row k) t tt

-- zeros stay zeros
pub wht_zeros : (k : ℕ) {t : List ℤ} → Zeros 4 t → wht k t ≡ t
unfolding wht wht_row every writes run shape
wht_zeros k z = zeros_stay 4 (wht_row k) refl tt z

-- ---- the four results, of the four numbers after the shift
unfoldable w0 : ℤ → ℤ → ℤ → ℤ → ℤ
w0 a c d b = (a +ℤ c) -ℤ (halfway a c d b -ℤ b)

unfoldable w1 : ℤ → ℤ → ℤ → ℤ → ℤ
w1 a c d b = halfway a c d b -ℤ b

unfoldable w2 : ℤ → ℤ → ℤ → ℤ → ℤ
w2 a c d b = halfway a c d b -ℤ c

unfoldable w3 : ℤ → ℤ → ℤ → ℤ → ℤ
w3 a c d b = (d -ℤ b) +ℤ (halfway a c d b -ℤ c)

-- a floor half is the one number h with 2h ≤ z < 2h + 2
half_is : (z h : ℤ) → P h + P h + N z ≤ P z + N h + N h → P z + N h + N h < P h + P h + 2 + N z → shr_z z 2 ≡ h
half_is z h l g = eq_parts (shr_z z 2) h (omega (arith, shr_low z 2 (omega arith), shr_high z 2 (omega arith)))

module _ (a c d b : ℤ) where
  abbrev m : E
  m = at (halfway a c d b)

  abbrev e0 : E
  e0 = (at a ⊕ at c) ⊖ (m ⊖ at b)

  abbrev e1 : E
  e1 = m ⊖ at b

  abbrev e2 : E
  e2 = m ⊖ at c

  abbrev e3 : E
  e3 = (at d ⊖ at b) ⊕ (m ⊖ at c)

  abbrev em : E
  em = m ⊕ (at d ⊖ at b)

  -- the second turn's e is the first one's and d − b more
  halfway_again : halfway (w0 a c d b) (w1 a c d b) (w2 a c d b) (w3 a c d b) ≡ halfway a c d b +ℤ (d -ℤ b)
  unfolding halfway w0 w1 w2 w3
  halfway_again =
      let z = (at a ⊕ at c) ⊖ (at d ⊖ at b) in
      let y = (e0 ⊕ e1) ⊖ (e2 ⊖ e3) in
      half_is (ev y) (ev em)
      (omega (arith, sound y, sound em, sound z, shr_low (ev z) 2 (omega arith), apart (ev y), apart (ev em)))
      (omega (arith, sound y, sound em, sound z, shr_high (ev z) 2 (omega arith), apart (ev y), apart (ev em)))

  again0 : w0 (w0 a c d b) (w1 a c d b) (w2 a c d b) (w3 a c d b) ≡ a
  unfolding w0 w1 w2 w3
  again0 = rw halfway_again (ring ((e0 ⊕ e1) ⊖ (em ⊖ e3)) (at a) (omega arith))

  again1 : w1 (w0 a c d b) (w1 a c d b) (w2 a c d b) (w3 a c d b) ≡ c
  unfolding w0 w1 w2 w3
  again1 = rw halfway_again (ring (em ⊖ e3) (at c) (omega arith))

  again2 : w2 (w0 a c d b) (w1 a c d b) (w2 a c d b) (w3 a c d b) ≡ d
  unfolding w0 w1 w2 w3
  again2 = rw halfway_again (ring (em ⊖ e1) (at d) (omega arith))

  again3 : w3 (w0 a c d b) (w1 a c d b) (w2 a c d b) (w3 a c d b) ≡ b
  unfolding w0 w1 w2 w3
  again3 = rw halfway_again (ring ((e2 ⊖ e3) ⊕ (em ⊖ e1)) (at b) (omega arith))

shr_one : (z : ℤ) → shr_z z 1 ≡ z
shr_one z = eq_parts (shr_z z 1) z (omega (arith, shr_low z 1 (omega arith), shr_high z 1 (omega arith)))

quarter : (z : ℤ) → shr_z (pos 4 *ℤ z) 4 ≡ z
quarter z =
    let y = pos 4 *ℤ z in
    eq_parts (shr_z y 4) z (omega (arith, shr_low y 4 (omega arith), shr_high y 4 (omega arith), mul_P (pos 4) z, mul_N (pos 4) z))

-- a row that has its four numbers
four : (R : List ℤ → Type 0) → ((a c d b : ℤ) (t : List ℤ) → R (a ∷ c ∷ d ∷ b ∷ t)) → (t : List ℤ) → 4 ≤ length t → R t
four R f [] h = absurd (omega arith)
four R f (a ∷ []) h = absurd (omega arith)
four R f (a ∷ c ∷ []) h = absurd (omega arith)
four R f (a ∷ c ∷ d ∷ []) h = absurd (omega arith)
four R f (a ∷ c ∷ d ∷ b ∷ t) h = f a c d b t

-- the whole row at shift 0
row : (a c d b : ℤ) (t : List ℤ) → wht 0 (a ∷ c ∷ d ∷ b ∷ t) ≡ w0 a c d b ∷ w1 a c d b ∷ w2 a c d b ∷ w3 a c d b ∷ t
unfolding wht wht_row run step wht4 w0 w1 w2 w3
row a c d b t = simp shr_one

-- at shift 0 it is its own inverse
pub wht_again : (t : List ℤ) → 4 ≤ length t → wht 0 (wht 0 t) ≡ t
wht_again = four (λ t. wht 0 (wht 0 t) ≡ t) (λ a c d b t. simp (row, again0, again1, again2, again3))

-- the four results come from the four numbers after the shift alone
pub wht_same : (k l : ℕ) (t u : List ℤ) → 4 ≤ length t → 4 ≤ length u
    → ((i : ℕ) → i < 4 → shr_z (get_or t i (pos 0)) (2 ^ k) ≡ shr_z (get_or u i (pos 0)) (2 ^ l))
    → (i : ℕ) → i < 4 → get_or (wht k t) i (pos 0) ≡ get_or (wht l u) i (pos 0)
unfolding wht wht_row run step wht4
wht_same k l t u p q =
    four (λ t. ((i : ℕ) → i < 4 → shr_z (get_or t i (pos 0)) (2 ^ k) ≡ shr_z (get_or u i (pos 0)) (2 ^ l)) → (i : ℕ) → i < 4 → get_or (wht k t) i (pos 0) ≡ get_or (wht l u) i (pos 0))
    (λ a c d b t.
    four (λ u. ((i : ℕ) → i < 4 → shr_z (get_or (a ∷ c ∷ d ∷ b ∷ t) i (pos 0)) (2 ^ k) ≡ shr_z (get_or u i (pos 0)) (2 ^ l)) → (i : ℕ) → i < 4 → get_or (wht k (a ∷ c ∷ d ∷ b ∷ t)) i (pos 0) ≡ get_or (wht l u) i (pos 0))
    (λ a' c' d' b' u. go a c d b a' c' d' b' t u) u q)
    t p
  where
    go : (a c d b a' c' d' b' : ℤ) (t u : List ℤ) → ((i : ℕ) → i < 4 → shr_z (get_or (a ∷ c ∷ d ∷ b ∷ t) i (pos 0)) (2 ^ k) ≡ shr_z (get_or (a' ∷ c' ∷ d' ∷ b' ∷ u) i (pos 0)) (2 ^ l))
        → (i : ℕ) → i < 4 → get_or (wht k (a ∷ c ∷ d ∷ b ∷ t)) i (pos 0) ≡ get_or (wht l (a' ∷ c' ∷ d' ∷ b' ∷ u)) i (pos 0)
    go a c d b a' c' d' b' t u e zero h = rw (e 0 (omega arith), e 1 (omega arith), e 2 (omega arith), e 3 (omega arith))
    go a c d b a' c' d' b' t u e (suc zero) h = rw (e 0 (omega arith), e 1 (omega arith), e 2 (omega arith), e 3 (omega arith))
    go a c d b a' c' d' b' t u e (suc (suc zero)) h = rw (e 0 (omega arith), e 1 (omega arith), e 2 (omega arith), e 3 (omega arith))
    go a c d b a' c' d' b' t u e (suc (suc (suc zero))) h = rw (e 0 (omega arith), e 1 (omega arith), e 2 (omega arith), e 3 (omega arith))
    go a c d b a' c' d' b' t u e (suc (suc (suc (suc i)))) h = absurd (omega arith)

-- four times a row at shift 2 is the row at shift 0
pub wht_fours : (t u : List ℤ) → 4 ≤ length t → 4 ≤ length u → ((i : ℕ) → i < 4 → get_or u i (pos 0) ≡ pos 4 *ℤ get_or t i (pos 0))
    → (i : ℕ) → i < 4 → get_or (wht 2 u) i (pos 0) ≡ get_or (wht 0 t) i (pos 0)
wht_fours t u p q e = wht_same 2 0 u t q p (λ i h. rw (e i h) (quarter (get_or t i (pos 0)) ∙ sym (shr_one (get_or t i (pos 0)))))
