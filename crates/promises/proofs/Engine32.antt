-- `inverse_transform_2d_32` gives each of the driver's numbers when the driver does, and 18 when, and only when, no other number applies and a number of T is outside 16 bits on the way; where it answers 0, the driver does, and the two blocks are one.
use mathlib.Core.Path.{◌≡◌, refl, sym, subst, ◌∙◌}
use mathlib.Core.Bool.{Bool, true, false, cond, not, ◌&&◌}
use mathlib.Core.List.{List, [], ◌∷◌}
use mathlib.Core.Logic.{◌⊎◌, inl, inr}
use Prim.Native.Nat.{ℕ, zero, suc, ◌<◌}
use native.Mathlib.Omega.{arith}
use borrow.Author.Tests.{leb-false, eqb-true, eq-eqb, not-true}
use lib.Dec.{leb, eqb}
use lib.IntN.{ℤ, pos, negsuc}
use lib.ListN.{get_or, take}
use Rattle.whole.specs.Steps.{run}
use Rattle.answers.specs.Answers.{Answer, number}
use Rattle.answers.specs.Sizes.{side}
use Rattle.steps.specs.Step.{step}
use Rattle.steps.specs.Step2.{Arrays, step2, fresh}
use Rattle.dct.specs.Dct.{dct_row}
use Rattle.adst.specs.Adst.{adst_steps}
use Rattle.wht.specs.Wht.{wht_row}
use Rattle.narrow.specs.Kept.{short, shorts, always, kept, kept2}
use Rattle.narrow.proofs.Short.{short_above, short_below}
use Rattle.blocks.specs.Block.{row, column, rows}
use Rattle.blocks.specs.Inverse.{Pass, Dct, Adst, Wht, apply, row_pass, column_pass}
use Rattle.idct.specs.Driver as D
use Rattle.weights.specs.Line.{kept_line}
use Rattle.idct32.specs.Engine.{every, kept_rows, kept_columns, within16, width_answer, answer_of32, block_after32, Driven32}
use Rattle.idct32.proofs.Scan.{never, and_no, every_fails, shorts_fails}
use Rattle.promises.specs.Conditions.{Outside, above, below, SomeOutside, after, LineLeaves}
use Rattle.promises.specs.Exactly.{Exactly}
use Rattle.promises.specs.When as W
use Rattle.promises.proofs.Report.{and_last}
use Rattle.promises.proofs.When.{driver_exactly}

-- ---- a test that fails, and where
either : (a b : Bool) → a && b ≡ false → (a ≡ false) ⊎ (b ≡ false)
either false b e = inl refl
either true b e = inr e

pub record Fails (p : ℕ → Bool) (n : ℕ) : Type 0 where
  pub place : ℕ
  pub listed : place < n
  pub fails : p place ≡ false

one_more : {p : ℕ → Bool} {n : ℕ} → Fails p n → Fails p (suc n)
one_more f = record { place = f.place; listed = omega (arith, f.listed); fails = f.fails }

every_some : (p : ℕ → Bool) (n : ℕ) → every p n ≡ false → Fails p n
unfolding every
every_some p zero h = never (sym h)
every_some p (suc n) h = go (either (p n) (every p n) h) (every_some p n)
  where
    go : (p n ≡ false) ⊎ (every p n ≡ false) → (every p n ≡ false → Fails p n) → Fails p (suc n)
    go (inl e) f = record { place = n; listed = omega arith; fails = e }
    go (inr e) f = one_more (f e)

shorts_some : (n : ℕ) (t : List ℤ) → shorts n t ≡ false → Fails (λ k. short (get_or t k (pos 0))) n
unfolding shorts
shorts_some zero t h = never (sym h)
shorts_some (suc n) t h = go (either (short (get_or t n (pos 0))) (shorts n t) h) (shorts_some n t)
  where
    go : (short (get_or t n (pos 0)) ≡ false) ⊎ (shorts n t ≡ false) → (shorts n t ≡ false → Fails (λ k. short (get_or t k (pos 0))) n)
        → Fails (λ k. short (get_or t k (pos 0))) (suc n)
    go (inl e) f = record { place = n; listed = omega arith; fails = e }
    go (inr e) f = one_more (f e)

-- ---- one number
outside_test : (z : ℤ) → Outside z → short z ≡ false
outside_test z (above h) = short_above z h
outside_test z (below {n} h) = short_below z (omega arith)

is_outside : (z : ℤ) → short z ≡ false → Outside z
unfolding short
is_outside (pos n) h = go (either (leb n 32767) (leb 0 32768) h)
  where
    go : (leb n 32767 ≡ false) ⊎ (leb 0 32768 ≡ false) → Outside (pos n)
    go (inl e) = above (leb-false n 32767 e)
    go (inr e) = never (sym e)
is_outside (negsuc n) h = go (either (leb 0 32767) (leb (suc n) 32768) h)
  where
    go : (leb 0 32767 ≡ false) ⊎ (leb (suc n) 32768 ≡ false) → Outside (negsuc n)
    go (inl e) = never (sym e)
    go (inr e) = below {n = n} (omega (arith, leb-false (suc n) 32768 e))

some_outside : (n : ℕ) (t : List ℤ) → shorts n t ≡ false → SomeOutside n t
some_outside n t h = let f = shorts_some n t h in record { place = f.place; listed = f.listed; outside = is_outside _ f.fails }

outside_shorts : (n : ℕ) (t : List ℤ) → SomeOutside n t → shorts n t ≡ false
outside_shorts n t o = shorts_fails n t o.place o.listed (outside_test _ o.outside)

-- ---- one line: a state of the way fails the test
module _ {A S : Type 0} (step : A → S → S) (good : S → Bool) where
  always_fails : (k : ℕ) (ss : List A) (t : S) → good (run step (take k ss) t) ≡ false → always step good ss t ≡ false
  unfolding always run
  always_fails zero [] t h = h
  always_fails zero (s ∷ ss) t h = rw h
  always_fails (suc k) [] t h = h
  always_fails (suc k) (s ∷ ss) t h = and_no (good t) (always step good ss (step s t)) (always_fails k ss (step s t) h)

  always_some : (ss : List A) (t : S) → always step good ss t ≡ false → (k : ℕ) × (good (run step (take k ss) t) ≡ false)
  unfolding always run
  always_some [] t h = (0, h)
  always_some (s ∷ ss) t h = go (either (good t) (always step good ss (step s t)) h) (always_some ss (step s t))
    where
      go : (good t ≡ false) ⊎ (always step good ss (step s t) ≡ false)
          → (always step good ss (step s t) ≡ false → (k : ℕ) × (good (run step (take k ss) (step s t)) ≡ false)) → (k : ℕ) × (good (run step (take k (s ∷ ss)) t) ≡ false)
      go (inl e) f = (0, e)
      go (inr e) f = let g = f e in (suc g.0, g.1)

line_fails : (p : Pass) (n : ℕ) (t : List ℤ) → LineLeaves p n t → kept_line p n t ≡ false
unfolding kept kept2 after
line_fails Dct n t l = always_fails step (shorts (side n)) l.steps (dct_row n) t (outside_shorts (side n) _ l.some)
line_fails Adst n t l = always_fails step2 (λ (u : Arrays). shorts (side n) u.T) l.steps (adst_steps n) (fresh t) (outside_shorts (side n) _ l.some)
line_fails (Wht shift) n t l = always_fails step (shorts (side n)) l.steps (wht_row shift) t (outside_shorts (side n) _ l.some)

line_leaves : (p : Pass) (n : ℕ) (t : List ℤ) → kept_line p n t ≡ false → LineLeaves p n t
unfolding kept kept2 after
line_leaves Dct n t h = let f = always_some step (shorts (side n)) (dct_row n) t h in record { steps = f.0; some = some_outside (side n) _ f.1 }
line_leaves Adst n t h = let f = always_some step2 (λ (u : Arrays). shorts (side n) u.T) (adst_steps n) (fresh t) h in record { steps = f.0; some = some_outside (side n) _ f.1 }
line_leaves (Wht shift) n t h = let f = always_some step (shorts (side n)) (wht_row shift) t h in record { steps = f.0; some = some_outside (side n) _ f.1 }

-- ---- the engine's test
below_18 : (u : D.Input) (k : ℕ) → W.Driver u k → k < 18
below_18 u k (W.side h) = omega arith
below_18 u k (W.lossless h) = omega arith
below_18 u k (W.tx_type h) = omega arith
below_18 u k (W.room h) = omega arith
below_18 u k (W.coefficient h) = omega arith

module _ (u : D.Input) where
  -- what the rows leave
  left : List ℤ
  left = rows (apply (row_pass u.tx_type u.lossless) u.n) (side u.n) u.block

  test : Bool
  test = not (within16 u.n u.tx_type u.lossless u.block)

  row_test : (i : ℕ) → i < side u.n → LineLeaves (row_pass u.tx_type u.lossless) u.n (row (side u.n) i u.block) → test ≡ true
  unfolding test within16 kept_rows
  row_test i h l =
      rw (every_fails (λ i. kept_line (row_pass u.tx_type u.lossless) u.n (row (side u.n) i u.block)) (side u.n) i h (line_fails _ _ _ l))

  columns_fail : (j : ℕ) → j < side u.n → LineLeaves (column_pass u.tx_type u.lossless) u.n (column (side u.n) j left)
      → kept_columns (column_pass u.tx_type u.lossless) u.n left ≡ false
  unfolding kept_columns
  columns_fail j h l = every_fails (λ j. kept_line (column_pass u.tx_type u.lossless) u.n (column (side u.n) j left)) (side u.n) j h (line_fails _ _ _ l)

  column_test : (j : ℕ) → j < side u.n → LineLeaves (column_pass u.tx_type u.lossless) u.n (column (side u.n) j left) → test ≡ true
  unfolding test within16 left
  column_test j h l = rw (and_no (kept_rows (row_pass u.tx_type u.lossless) u.n u.block) (kept_columns (column_pass u.tx_type u.lossless) u.n left) (columns_fail j h l))

  leaves : test ≡ true → W.Engine32 u 18
  unfolding test within16 kept_rows kept_columns left
  leaves h = go (either (kept_rows (row_pass u.tx_type u.lossless) u.n u.block) (kept_columns (column_pass u.tx_type u.lossless) u.n left) (not-true _ h))
    where
      go : (kept_rows (row_pass u.tx_type u.lossless) u.n u.block ≡ false) ⊎ (kept_columns (column_pass u.tx_type u.lossless) u.n left ≡ false) → W.Engine32 u 18
      go (inl e) = let f = every_some _ (side u.n) e in W.row_leaves f.place f.listed (line_leaves _ _ _ f.fails)
      go (inr e) = let f = every_some _ (side u.n) e in W.column_leaves f.place f.listed (line_leaves _ _ _ f.fails)

  split : (k : ℕ) → W.Engine32 u k → W.Driver u k ⊎ ((k ≡ 18) × (test ≡ true))
  unfolding left
  split k (W.driver w) = inl w
  split k (W.row_leaves i h l) = inr (refl, row_test i h l)
  split k (W.column_leaves j h l) = inr (refl, column_test j h l)

  engine32_exactly : Exactly (W.Engine32 u) (answer_of32 u)
  unfolding answer_of32 width_answer test
  engine32_exactly = and_last (W.Driver u) (W.Engine32 u) (D.answer_of u) 18 test (driver_exactly u) (omega arith) (below_18 u) (λ k w. W.driver w) leaves split

-- `inverse_transform_2d_32`
pub engine32_when : (u : D.Input) (a : Answer) (s : List ℤ) → Driven32 u a s → Exactly (W.Engine32 u) (number a)
engine32_when u a s d = subst (λ (n : ℕ). Exactly (W.Engine32 u) n) (sym d.answered) (engine32_exactly u)

-- AGREEMENT: where the engine answers 0 the driver does, and the two leave the same block
own : (a b : ℕ) → cond (eqb a 0) b a ≡ 0 → a ≡ 0
own a b h = go (eqb a 0) refl
  where
    go : (c : Bool) → eqb a 0 ≡ c → a ≡ 0
    go true e = eqb-true a 0 e
    go false e = rw e at h

pub engine32_agrees : (u : D.Input) (a b : Answer) (s t : List ℤ) → Driven32 u a s → D.Driven u b t → number a ≡ 0 → (number b ≡ 0) × (s ≡ t)
unfolding answer_of32 block_after32 D.block_after
engine32_agrees u a b s t p q h =
    let z : answer_of32 u ≡ 0 = sym p.answered ∙ h in
    let d : D.answer_of u ≡ 0 = own (D.answer_of u) (width_answer u) z in
    (q.answered ∙ d, p.written ∙ rw (eq-eqb (answer_of32 u) 0 z) (sym (q.written ∙ rw (eq-eqb (D.answer_of u) 0 d))))

-- the 64-bit drivers never give 18
pub driver_not_18 : (u : D.Input) (a : Answer) (s : List ℤ) → D.Driven u a s → number a ≡ 18 → ⊥
driver_not_18 u a s d h =
    let o = (driver_exactly u).only_when 17 (sym d.answered ∙ h) in
    absurd (omega (arith, below_18 u 18 o.0))
