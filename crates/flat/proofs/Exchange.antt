-- Numbers exchanged in place: where f is its own inverse below n, one exchange of k and f k for each k below f k is the permutation by f.
use mathlib.Core.Path.{◌≡◌, refl, ap, sym, ◌∙◌}
use mathlib.Core.Bool.{Bool, cond, true, false}
use mathlib.Core.List.{List}
use mathlib.Core.Logic.{◌≢◌}
use Prim.Native.Nat.{ℕ, zero, suc, ◌+◌, ◌*◌, ◌%◌, ◌^◌, ◌≤◌, ◌<◌}
use native.Mathlib.Decide.{ℕ_discrete, dec_le}
use native.Mathlib.Nat as NatL
use native.Mathlib.Numerals.{add-one}
use native.Mathlib.Omega.{arith}
use lib.Dec.{T, ltb, eqb, eqb→eq}
use lib.IntN.{ℤ, pos}
use lib.ListN.{length, get_or, set, length-set}
use lib.Pow.{pow_mono}
use lib.Seq.{ext_get_or, get_or-set_same, get_or-set_other}
use borrow.Author.Tests.{lt-ltb, le-ltb}
use Rattle.whole.specs.Lists.{fill, move}
use Rattle.whole.proofs.Lists.{length_fill, fill_below, fill_rest}
use Rattle.whole.proofs.Tests.{all_below, below}
use Rattle.primitives.specs.Brev.{Brev}
use Rattle.primitives.proofs.Reversal.{brev_lt}
use Rattle.steps.specs.Step.{Move, step}

-- the numbers at i and j change places where i is below j
unfoldable pub exchange : ℕ → ℕ → List ℤ → List ℤ
exchange i j t = cond (ltb i j) (set (set t i (get_or t j (pos 0))) j (get_or t i (pos 0))) t

-- one exchange for each number below k
unfoldable pub exchanges : (ℕ → ℕ) → ℕ → List ℤ → List ℤ
exchanges f zero t = t
exchanges f (suc k) t = exchange k (f k) (exchanges f k t)

-- a loop that exchanges
pub exchanges_none : (f : ℕ → ℕ) (t : List ℤ) → t ≡ exchanges f 0 t
unfolding exchanges
exchanges_none f t = refl

pub exchanges_more : (f : ℕ → ℕ) (t : List ℤ) (i : ℕ) {y z : List ℤ} → y ≡ exchanges f i t → z ≡ exchange i (f i) y → z ≡ exchanges f (i + 1) t
unfolding exchanges
exchanges_more f t i {y} {z} p q = q ∙ ap (exchange i (f i)) p ∙ rw add-one

pub exchange_taken : (i j : ℕ) (t : List ℤ) → i < j → exchange i j t ≡ set (set t i (get_or t j (pos 0))) j (get_or t i (pos 0))
unfolding exchange
exchange_taken i j t h = rw (lt-ltb i j h)

pub exchange_left : (i j : ℕ) (t : List ℤ) → j ≤ i → exchange i j t ≡ t
unfolding exchange
exchange_left i j t h = rw (le-ltb i j h)

-- the other places
exchange_other : (i j p : ℕ) (t : List ℤ) → p ≢ i → p ≢ j → get_or (exchange i j t) p (pos 0) ≡ get_or t p (pos 0)
unfolding exchange
exchange_other i j p t a b = go (ltb i j)
  where
    go : (b : Bool) → get_or (cond b (set (set t i (get_or t j (pos 0))) j (get_or t i (pos 0))) t) p (pos 0) ≡ get_or t p (pos 0)
    go true = get_or-set_other (set t i (get_or t j (pos 0))) j p (get_or t i (pos 0)) (pos 0) b ∙ get_or-set_other t i p (get_or t j (pos 0)) (pos 0) a
    go false = refl

exchange_length : (i j : ℕ) (t : List ℤ) → length (exchange i j t) ≡ length t
unfolding exchange
exchange_length i j t = go (ltb i j)
  where
    go : (b : Bool) → length (cond b (set (set t i (get_or t j (pos 0))) j (get_or t i (pos 0))) t) ≡ length t
    go true = length-set (set t i (get_or t j (pos 0))) j (get_or t i (pos 0)) ∙ length-set t i (get_or t j (pos 0))
    go false = refl

module _ (n : ℕ) (f : ℕ → ℕ) (back : (i : ℕ) → i < n → f (f i) ≡ i) (low : (i : ℕ) → i < n → f i < n) (t : List ℤ) where
  abbrev after : ℕ → List ℤ
  after k = exchanges f k t

  kept : (k : ℕ) → length (after k) ≡ length t
  unfolding exchanges
  kept zero = refl
  kept (suc k) = exchange_length k (f k) (after k) ∙ kept k

  -- a place is as it was until its pair's turn
  stays : (k : ℕ) → k ≤ n → (p : ℕ) → (p < n → (k ≤ p) × (k ≤ f p)) → get_or (after k) p (pos 0) ≡ get_or t p (pos 0)
  unfolding exchanges
  stays zero h p o = refl
  stays (suc k) h p o =
      exchange_other k (f k) p (after k)
      (λ (e : p ≡ k). absurd (omega (arith, (o (omega arith)).0)))
      (λ (e : p ≡ f k). absurd (omega (arith, (o (omega (arith, low k (omega arith)))).1, ap f e ∙ back k (omega arith))))
      ∙ stays k (omega arith) p (λ b. (omega (arith, (o b).0), omega (arith, (o b).1)))

  -- the turn of k and f k: what stands at k, and at f k
  turn_low : (k : ℕ) → k < n → k < length t → k ≤ f k → get_or (exchange k (f k) (after k)) k (pos 0) ≡ get_or t (f k) (pos 0)
  turn_low k h l le = go (ℕ_discrete k (f k))
    where
      go : Dec (k ≡ f k) → get_or (exchange k (f k) (after k)) k (pos 0) ≡ get_or t (f k) (pos 0)
      go (yes e) =
          ap (λ (u : List ℤ). get_or u k (pos 0)) (exchange_left k (f k) (after k) (omega (arith, e)))
          ∙ stays k (omega arith) k (λ _. (omega arith, le))
          ∙ ap (λ (q : ℕ). get_or t q (pos 0)) e
      go (no ne) =
          ap (λ (u : List ℤ). get_or u k (pos 0)) (exchange_taken k (f k) (after k) (omega arith))
          ∙ get_or-set_other (set (after k) k (get_or (after k) (f k) (pos 0))) (f k) k (get_or (after k) k (pos 0)) (pos 0) ne
          ∙ get_or-set_same (after k) k (get_or (after k) (f k) (pos 0)) (pos 0) (omega (arith, kept k))
          ∙ stays k (omega arith) (f k) (λ _. (le, omega (arith, back k h)))

  turn_high : (k : ℕ) → k < n → f k < length t → k < f k → get_or (exchange k (f k) (after k)) (f k) (pos 0) ≡ get_or t k (pos 0)
  turn_high k h l lt =
      ap (λ (u : List ℤ). get_or u (f k) (pos 0)) (exchange_taken k (f k) (after k) lt)
      ∙ get_or-set_same (set (after k) k (get_or (after k) (f k) (pos 0))) (f k) (get_or (after k) k (pos 0)) (pos 0)
      (omega (arith, length-set (after k) k (get_or (after k) (f k) (pos 0)), kept k))
      ∙ stays k (omega arith) k (λ _. (omega arith, omega arith))

  module _ (p : ℕ) (b : p < n) (l : p < length t) where
    -- no later turn moves p: the turn of the greater of the two exchanges nothing
    later : (k : ℕ) → k < n → p ≢ k → (k ≡ f p → p ≤ k) → get_or (exchange k (f k) (after k)) p (pos 0) ≡ get_or (after k) p (pos 0)
    later k h ne g = go (ℕ_discrete k (f p))
      where
        go : Dec (k ≡ f p) → get_or (exchange k (f k) (after k)) p (pos 0) ≡ get_or (after k) p (pos 0)
        go (yes e) = ap (λ (u : List ℤ). get_or u p (pos 0)) (exchange_left k (f k) (after k) (omega (arith, g e, ap f e ∙ back p b)))
        go (no m) = exchange_other k (f k) p (after k) ne (λ (e : p ≡ f k). m (sym (ap f e ∙ back k h)))

    -- p is the lower of its pair
    from_low : p ≤ f p → (k : ℕ) → k ≤ n → p < k → get_or (after k) p (pos 0) ≡ get_or t (f p) (pos 0)
    unfolding exchanges
    from_low le zero h q = absurd (omega arith)
    from_low le (suc k) h q = go (λ m. from_low le k (omega arith) m) (ℕ_discrete p k)
      where
        go : (p < k → get_or (after k) p (pos 0) ≡ get_or t (f p) (pos 0)) → Dec (p ≡ k) → get_or (exchange k (f k) (after k)) p (pos 0) ≡ get_or t (f p) (pos 0)
        go before (yes e) = rw (sym e) (turn_low p b l le)
        go before (no ne) = later k (omega arith) ne (λ _. omega arith) ∙ before (omega arith)

    -- p is the higher of its pair
    from_high : f p < p → (k : ℕ) → k ≤ n → f p < k → get_or (after k) p (pos 0) ≡ get_or t (f p) (pos 0)
    unfolding exchanges
    from_high lt zero h q = absurd (omega arith)
    from_high lt (suc k) h q = go (λ m. from_high lt k (omega arith) m) (ℕ_discrete k (f p)) (ℕ_discrete p k)
      where
        go : (f p < k → get_or (after k) p (pos 0) ≡ get_or t (f p) (pos 0)) → Dec (k ≡ f p) → Dec (p ≡ k)
            → get_or (exchange k (f k) (after k)) p (pos 0) ≡ get_or t (f p) (pos 0)
        go before (yes e) _ =
            let m : p ≡ f k = sym (back p b) ∙ ap f (sym e) in
            ap (λ (q : ℕ). get_or (exchange k (f k) (after k)) q (pos 0)) m
            ∙ turn_high k (omega arith) (omega (arith, m)) (omega (arith, m, e))
            ∙ ap (λ (q : ℕ). get_or t q (pos 0)) e
        go before (no ne) (yes e) =
            ap (λ (u : List ℤ). get_or u p (pos 0)) (exchange_left k (f k) (after k) (omega (arith, ap f e))) ∙ before (omega arith)
        go before (no ne) (no m) = later k (omega arith) m (λ (e : k ≡ f p). absurd (ne e)) ∙ before (omega arith)

    at : get_or (after n) p (pos 0) ≡ get_or t (f p) (pos 0)
    at = go (dec_le p (f p))
      where
        go : Dec (p ≤ f p) → get_or (after n) p (pos 0) ≡ get_or t (f p) (pos 0)
        go (yes le) = from_low le n (omega arith) b
        go (no gt) = from_high (omega arith) n (omega arith) (omega arith)

  pub exchanged : exchanges f n t ≡ step (Move n f) t
  unfolding step move
  exchanged = ext_get_or (pos 0) (after n) (fill n g t) (kept n ∙ sym (length_fill n g t)) (λ p h. go p (omega (arith, kept n)) (dec_le n p))
    where
      g : ℕ → ℤ
      g i = get_or t (f i) (pos 0)

      go : (p : ℕ) → p < length t → Dec (n ≤ p) → get_or (after n) p (pos 0) ≡ get_or (fill n g t) p (pos 0)
      go p l (yes q) = stays n (omega arith) p (λ b. absurd (omega arith)) ∙ sym (fill_rest (pos 0) n g t p q)
      go p l (no q) = at p (omega arith) l ∙ sym (fill_below (pos 0) n g t p (omega arith) l)

-- reversed twice, at every size and place
twice : T (all_below 6 (λ n. all_below 32 (λ i. eqb (Brev n (Brev n i)) (i % 2 ^ n))))
unfolding Brev
twice = tt

-- the bits in reverse are such a rule: the loop of the code is the permutation of the DCT
pub reversed : (n : ℕ) → n ≤ 5 → (t : List ℤ) → exchanges (Brev n) (2 ^ n) t ≡ step (Move (2 ^ n) (Brev n)) t
reversed n h t = exchanged (2 ^ n) (Brev n) back (λ i _. brev_lt n i) t
  where
    back : (i : ℕ) → i < 2 ^ n → Brev n (Brev n i) ≡ i
    back i b =
        eqb→eq (Brev n (Brev n i)) (i % 2 ^ n)
        (below 32 (λ i. eqb (Brev n (Brev n i)) (i % 2 ^ n)) (below 6 (λ n. all_below 32 (λ i. eqb (Brev n (Brev n i)) (i % 2 ^ n))) twice n (omega arith)) i
        (omega (arith, pow_mono {i = n} {j = 5} h)))
        ∙ NatL.mod-eq_of_lt b

-- place b of group a, of h groups of k
pub inside : (h k a b : ℕ) → a < h → b < k → k * a + b < h * k
inside h k a b p q = omega (arith, NatL.mul-le-mul_right {m = a + 1} {n = h} k (omega arith), NatL.mul_comm k a)

-- after the last place of group a, the first of the next
pub group : (k a b : ℕ) → b ≤ k → k ≤ b → k * a + b ≡ k * (a + 1)
group k a b p q = omega (arith, NatL.mul-add k a 1, NatL.mul-one k)
