-- What a passed test says of what it tested.
use mathlib.Core.Path.{◌≡◌, refl}
use mathlib.Core.Bool.{Bool, true, false}
use mathlib.Core.List.{List}
use Prim.Native.Nat.{ℕ, zero, suc, ◌≤◌, ◌<◌}
use native.Mathlib.Numerals.{add-one}
use native.Mathlib.Omega.{arith}
use borrow.Author.Tests.{ltb-false, le-ltb, eqb-true}
use lib.Dec.{ltb, eqb}
use lib.IntN.{ℤ, pos, negsuc, nat_abs}
use lib.ListN.{get_or}
use Rattle.whole.specs.Within.{Within}
use Rattle.whole.proofs.Tests.{any_at, any_none, any_more}
use Rattle.whole.proofs.Within.{within_abs}
use Rattle.answers.specs.Limits.{QUANT_LIMIT, codeable}
use Rattle.answers.specs.Bad.{bad_depth, bad_side, bad_quantizer, any_beyond}

-- true is not false
never : true ≡ false → ⊥
never h = let z : ◌≡◌ {A = ℕ} 0 1 = cc in omega arith

-- case work over the three depths
pub by_depth : (Q : ℕ → Type 0) → Q 8 → Q 10 → Q 12 → (depth : ℕ) → bad_depth depth ≡ false → Q depth
unfolding bad_depth
by_depth Q a b e depth h = go (eqb depth 8) (eqb depth 10) (eqb depth 12) refl refl refl
  where
    go : (x y z : Bool) → eqb depth 8 ≡ x → eqb depth 10 ≡ y → eqb depth 12 ≡ z → Q depth
    go true y z p q r = rw (eqb-true depth 8 p) a
    go false true z p q r = rw (eqb-true depth 10 q) b
    go false false true p q r = rw (eqb-true depth 12 r) e
    go false false false p q r = absurd (never (rw (p, q, r) at h))

-- n is 2 to 5
pub side_range : (n : ℕ) → bad_side n ≡ false → (2 ≤ n) × (n ≤ 5)
unfolding bad_side
side_range n h = go (ltb n 2) (ltb 5 n) refl refl
  where
    go : (a b : Bool) → ltb n 2 ≡ a → ltb 5 n ≡ b → (2 ≤ n) × (n ≤ 5)
    go true b p q = absurd (never (rw p at h))
    go false true p q = absurd (never (rw (p, q) at h))
    go false false p q = (ltb-false n 2 p, ltb-false 5 n q)

-- 12 is the deepest, and the limit of no depth at all is 0
pub codeable_most : (depth : ℕ) → codeable depth ≤ codeable 12
codeable_most depth = go (eqb depth 8) (eqb depth 10) (eqb depth 12) refl refl refl
  where
    go : (x y z : Bool) → eqb depth 8 ≡ x → eqb depth 10 ≡ y → eqb depth 12 ≡ z → codeable depth ≤ codeable 12
    go true y z p q r = rw (eqb-true depth 8 p) (omega arith)
    go false true z p q r = rw (eqb-true depth 10 q) (omega arith)
    go false false true p q r = rw (eqb-true depth 12 r) (omega arith)
    go false false false p q r = rw (p, q, r) (omega arith)

-- a quantizer is a positive number
pub record Quantizer (q : ℤ) : Type 0 where
  pub is : q ≡ pos (nat_abs q)
  pub least : 1 ≤ nat_abs q
  pub most : nat_abs q ≤ QUANT_LIMIT

pub quantizer : (q : ℤ) → bad_quantizer q ≡ false → Quantizer q
unfolding bad_quantizer
quantizer (pos n) h = go (ltb n 1) (ltb QUANT_LIMIT n) refl refl
  where
    go : (x y : Bool) → ltb n 1 ≡ x → ltb QUANT_LIMIT n ≡ y → Quantizer (pos n)
    go true y p e = absurd (never (rw p at h))
    go false true p e = absurd (never (rw (p, e) at h))
    go false false p e = record { is = refl; least = omega (arith, ltb-false n 1 p); most = omega (arith, ltb-false QUANT_LIMIT n e) }
quantizer (negsuc n) h = absurd (never h)

-- no magnitude is above m
pub none_beyond : (m n : ℕ) (l : List ℤ) → any_beyond m n l ≡ false → (k : ℕ) → k < n → nat_abs (get_or l k (pos 0)) ≤ m
unfolding any_beyond
none_beyond m n l h k p = ltb-false m (nat_abs (get_or l k (pos 0))) (any_at _ n k h p)

pub none_within : (m n : ℕ) (l : List ℤ) → any_beyond m n l ≡ false → (k : ℕ) → k < n → Within m (get_or l k (pos 0))
none_within m n l h k p = within_abs (none_beyond m n l h k p)

-- and the other way: a list within m passes
pub all_within : (m n : ℕ) (l : List ℤ) → ((k : ℕ) → k < n → nat_abs (get_or l k (pos 0)) ≤ m) → any_beyond m n l ≡ false
unfolding any_beyond
all_within m zero l h = any_none (λ k. ltb m (nat_abs (get_or l k (pos 0))))
all_within m (suc n) l h =
    rw add-one at (any_more (λ k. ltb m (nat_abs (get_or l k (pos 0)))) n (all_within m n l (λ k q. h k (omega arith))) (le-ltb m (nat_abs (get_or l n (pos 0))) (h n (omega arith))))
