-- Each shared test holds exactly where its condition does.
use mathlib.Core.Path.{◌≡◌, refl, sym, ◌∙◌}
use mathlib.Core.Bool.{Bool, true, false, not, ◌&&◌, ◌||◌}
use mathlib.Core.List.{List}
use Prim.Native.Nat.{ℕ, zero, suc, ◌≤◌, ◌<◌}
use native.Mathlib.Omega.{arith}
use borrow.Author.Tests.{ltb-true, ltb-false, eqb-true, eqb-false, lt-ltb, le-ltb, eq-eqb, ne_eqb}
use lib.Dec.{ltb, eqb}
use lib.IntN.{ℤ, pos, negsuc, nat_abs}
use lib.ListN.{get_or}
use Rattle.whole.specs.Tests.{any_below}
use Rattle.whole.proofs.Tests.{any_hit}
use Rattle.answers.specs.Limits.{QUANT_LIMIT}
use Rattle.answers.specs.Bad.{bad_depth, bad_lossless, bad_tx_type, bad_quantizer, any_beyond}
use Rattle.promises.specs.Conditions.{NoDepth, LosslessAt, NoTxType, NoQuantizer, SomeBeyond, above, at_32}

-- ---- of two tests
pub never : {A : Type 0} → false ≡ true → A
never h = absurd (let z : ◌≡◌ {A = ℕ} 0 1 = cc in omega arith)

pub not_true : (b : Bool) → not b ≡ true → b ≡ false
not_true false h = refl
not_true true h = never h

pub and_true : (a b : Bool) → a && b ≡ true → (a ≡ true) × (b ≡ true)
and_true true b h = (refl, h)
and_true false b h = never h

pub or_true : {A : Type 0} (a b : Bool) → (a ≡ true → A) → (b ≡ true → A) → a || b ≡ true → A
or_true true b f g h = f refl
or_true false b f g h = g h

pub left : (a b : Bool) → a ≡ true → a || b ≡ true
left a b e = rw e

pub right : (a b : Bool) → b ≡ true → a || b ≡ true
right true b e = refl
right false b e = e

-- a test of two numbers
pub differ : (a b : ℕ) → not (eqb a b) ≡ true → a ≡ b → ⊥
differ a b h = eqb-false a b (not_true (eqb a b) h)

pub differs : (a b : ℕ) → (a ≡ b → ⊥) → not (eqb a b) ≡ true
differs a b h = rw (ne_eqb a b h)

-- ---- 1
pub no_depth : (depth : ℕ) → bad_depth depth ≡ true → NoDepth depth
unfolding bad_depth
no_depth depth h = go (eqb depth 8) (eqb depth 10) (eqb depth 12) refl refl refl
  where
    go : (x y z : Bool) → eqb depth 8 ≡ x → eqb depth 10 ≡ y → eqb depth 12 ≡ z → NoDepth depth
    go true y z p q r = never (rw p at h)
    go false true z p q r = never (rw (p, q) at h)
    go false false true p q r = never (rw (p, q, r) at h)
    go false false false p q r =
        record { not_8 = eqb-false depth 8 p; not_10 = eqb-false depth 10 q; not_12 = eqb-false depth 12 r }

pub depth_test : (depth : ℕ) → NoDepth depth → bad_depth depth ≡ true
unfolding bad_depth
depth_test depth d = rw (ne_eqb depth 8 d.not_8, ne_eqb depth 10 d.not_10, ne_eqb depth 12 d.not_12)

-- ---- 3
pub lossless_at_lem : (lossless : Bool) (size : ℕ) → bad_lossless lossless size ≡ true → LosslessAt lossless size
unfolding bad_lossless
lossless_at_lem true size h = record { set = refl; larger = differ size 0 h }
lossless_at_lem false size h = never h

pub lossless_test : (lossless : Bool) (size : ℕ) → LosslessAt lossless size → bad_lossless lossless size ≡ true
unfolding bad_lossless
lossless_test lossless size l = rw (l.set, ne_eqb size 0 l.larger)

-- ---- 4
pub no_tx_type : (lossless : Bool) (size tx_type : ℕ) → bad_tx_type lossless size tx_type ≡ true → NoTxType lossless size tx_type
unfolding bad_tx_type
no_tx_type true size tx_type h = never h
no_tx_type false size tx_type h =
    or_true (ltb 3 tx_type) (eqb size 3 && not (eqb tx_type 0)) (λ e. above refl (ltb-true 3 tx_type e))
    (λ e. let p = and_true (eqb size 3) (not (eqb tx_type 0)) e in
    at_32 refl (eqb-true size 3 p.0) (differ tx_type 0 p.1))
    h

pub tx_type_test : (lossless : Bool) (size tx_type : ℕ) → NoTxType lossless size tx_type → bad_tx_type lossless size tx_type ≡ true
unfolding bad_tx_type
tx_type_test lossless size tx_type (above l h) = rw (l, lt-ltb 3 tx_type h)
tx_type_test lossless size tx_type (at_32 l e h) = rw (l, eq-eqb size 3 e, ne_eqb tx_type 0 h) (right (ltb 3 tx_type) true refl)

-- ---- 5
pub no_quantizer : (q : ℤ) → bad_quantizer q ≡ true → NoQuantizer q
unfolding bad_quantizer
no_quantizer q h = record { outside = λ n l m e. never (sym (passed n l m) ∙ (rw e at h)) }
  where
    passed : (n : ℕ) → 1 ≤ n → n ≤ 32767 → ltb n 1 || ltb QUANT_LIMIT n ≡ false
    passed n l m = rw (le-ltb n 1 l, le-ltb QUANT_LIMIT n m)

pub quantizer_test : (q : ℤ) → NoQuantizer q → bad_quantizer q ≡ true
unfolding bad_quantizer
quantizer_test (negsuc n) b = refl
quantizer_test (pos n) b = go (ltb n 1) (ltb QUANT_LIMIT n) refl refl
  where
    go : (x y : Bool) → ltb n 1 ≡ x → ltb QUANT_LIMIT n ≡ y → ltb n 1 || ltb QUANT_LIMIT n ≡ true
    go true y p r = rw p
    go false true p r = rw (p, r)
    go false false p r = absurd (b.outside n (ltb-false n 1 p) (ltb-false QUANT_LIMIT n r) refl)

-- ---- 8 and 9
pub found : (p : ℕ → Bool) (n : ℕ) → any_below p n ≡ true → (k : ℕ) × (k < n) × (p k ≡ true)
unfolding any_below
found p zero h = never h
found p (suc n) h = or_true (p n) (any_below p n) (λ e. (n, omega arith, e)) (λ e. let f = found p n e in (f.0, omega (arith, f.1), f.2)) h

pub some_beyond : (m n : ℕ) (l : List ℤ) → any_beyond m n l ≡ true → SomeBeyond m n l
unfolding any_beyond
some_beyond m n l h =
    let f = found _ n h in
    record { place = f.0; listed = f.1; beyond = ltb-true m (nat_abs (get_or l f.0 (pos 0))) f.2 }

pub beyond_test : (m n : ℕ) (l : List ℤ) → SomeBeyond m n l → any_beyond m n l ≡ true
unfolding any_beyond
beyond_test m n l b = any_hit _ b.place n b.listed (lt-ltb m (nat_abs (get_or l b.place (pos 0))) b.beyond)
