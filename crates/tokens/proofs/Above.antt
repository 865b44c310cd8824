-- The scan of the tokens against their bounds: as the code counts, and what it says of the two answers.
use mathlib.Core.Path.{◌≡◌, refl, sym, ap, ◌∙◌}
use mathlib.Core.Bool.{Bool, true, false, cond, not, ◌||◌}
use mathlib.Core.List.{List}
use Prim.Native.Nat.{ℕ, zero, suc, ◌+◌, ◌*◌, ◌/◌, ◌≤◌, ◌<◌}
use native.Mathlib.Numerals.{add-one}
use native.Mathlib.Nat as NatL
use native.Mathlib.Omega.{arith}
use borrow.Author.Tests.{lt-ltb, le-ltb, ne_eqb}
use lib.Dec.{ltb, eqb}
use lib.IntN.{ℤ, pos, nat_abs}
use lib.ListN.{length, get_or}
use Rattle.whole.specs.Tests.{any_below}
use Rattle.whole.proofs.Lists.{get_d_tabulate}
use Rattle.answers.specs.Limits.{COEF_LIMIT, codeable}
use Rattle.answers.specs.Bad.{bad_depth, bad_quantizer, any_beyond}
use Rattle.answers.proofs.Passed.{by_depth, all_within, quantizer}
use Rattle.quant.specs.declared.DcQuant.{DcQuant}
use Rattle.quant.specs.declared.AcQuant.{AcQuant}
use Rattle.quant.specs.Places.{quantizer_at, dequant_all}
use Rattle.quant.specs.Token.{dq_denom, dequant}
use Rattle.quant.proofs.Sign.{dequant_sign, abs_with_sign}
use Rattle.tokens.specs.Tokens.{bad_quantizers, bad_coefficient}
use Rattle.tokens.specs.Inner.{token_answer, Bounds, SmallTokens, any_above}
use Rattle.tokens.specs.declared.DcBound.{DcBound}
use Rattle.tokens.specs.declared.AcBound.{AcBound}
use Rattle.tokens.proofs.Sizes.{place_fine}

-- the count is not 0
pub counted : (n : ℕ) → not (eqb n 0) ≡ ltb 0 n
counted zero = refl
counted (suc n) = rw (ne_eqb (suc n) 0 (λ e. absurd (omega arith)), lt-ltb 0 (suc n) (omega arith))

module _ (dc : DcBound) (ac : AcBound) (tokens : List ℤ) where
  pub above_none : ltb 0 0 ≡ any_above dc ac 0 tokens
  unfolding any_above any_below
  above_none = refl

  pub above_hit : (k n : ℕ) → cond (eqb k 0) dc.0 ac.0 < nat_abs (get_or tokens k (pos 0)) → ltb 0 (n + 1) ≡ any_above dc ac (k + 1) tokens
  unfolding any_above any_below
  above_hit k n h = rw (add-one k, lt-ltb (cond (eqb k 0) dc.0 ac.0) (nat_abs (get_or tokens k (pos 0))) h) (lt-ltb 0 (n + 1) (omega arith))

  pub above_miss : (k : ℕ) {b : Bool} → nat_abs (get_or tokens k (pos 0)) ≤ cond (eqb k 0) dc.0 ac.0 → b ≡ any_above dc ac k tokens → b ≡ any_above dc ac (k + 1) tokens
  unfolding any_above any_below
  above_miss k h e = rw (add-one k, le-ltb (cond (eqb k 0) dc.0 ac.0) (nat_abs (get_or tokens k (pos 0))) h) e

-- ---- two scans in one
any_same : (p q : ℕ → Bool) (n : ℕ) → ((k : ℕ) → k < n → p k ≡ q k) → any_below p n ≡ any_below q n
unfolding any_below
any_same p q zero e = refl
any_same p q (suc n) e = rw (e n (omega arith), any_same p q n (λ k l. e k (omega arith)))

swap : (a b c d : Bool) → (a || b) || (c || d) ≡ (a || c) || (b || d)
swap true b c d = refl
swap false true true d = refl
swap false true false d = refl
swap false false c d = refl

any_or : (p q : ℕ → Bool) (n : ℕ) → any_below (λ k. p k || q k) n ≡ any_below p n || any_below q n
unfolding any_below
any_or p q zero = refl
any_or p q (suc n) = rw (any_or p q n) (swap (p n) (q n) (any_below p n) (any_below q n))

-- a coefficient's magnitude
pub dequant_abs : (size : ℕ) (q t : ℤ) → bad_quantizer q ≡ false → nat_abs (dequant size q t) ≡ nat_abs t * nat_abs q / dq_denom size
dequant_abs size q t h =
    rw (quantizer q h).is (ap nat_abs (dequant_sign size (nat_abs q) t) ∙ abs_with_sign t (nat_abs t * nat_abs q / dq_denom size))

module _ (size most : ℕ) (dc : DcBound) (ac : AcBound) (d : DcQuant) (a : AcQuant) (fine : bad_quantizers d a ≡ false) (bd : Bounds size d.0 most dc.0) (ba : Bounds size a.0 most ac.0) where
  -- the bound and the quantizer of place k
  place_bounds : (k : ℕ) → Bounds size (quantizer_at d a k) most (cond (eqb k 0) dc.0 ac.0)
  unfolding quantizer_at
  place_bounds k = go (eqb k 0)
    where
      go : (b : Bool) → Bounds size (cond b d.0 a.0) most (cond b dc.0 ac.0)
      go true = bd
      go false = ba

  -- a token above its bound is one that 8 or 9 refuses
  pub above_either : (tokens : List ℤ) → any_above dc ac (length tokens) tokens ≡ any_beyond most (length tokens) tokens || bad_coefficient size d a tokens
  unfolding any_above any_beyond bad_coefficient dequant_all
  above_either tokens =
      any_same _ (λ k. ltb most (nat_abs (get_or tokens k (pos 0))) || ltb COEF_LIMIT (nat_abs (get_or (dequant_all size d a tokens) k (pos 0)))) (length tokens)
      (λ k l. let t = get_or tokens k (pos 0) in
      (place_bounds k).tells (nat_abs t)
      ∙ ap (λ (m : ℕ). ltb most (nat_abs t) || ltb COEF_LIMIT m)
      (sym (ap nat_abs (get_d_tabulate _ (length tokens) k (pos 0) l) ∙ dequant_abs size (quantizer_at d a k) t (place_fine d a fine k))))
      ∙ any_or _ _ (length tokens)

-- where no limit is near, neither 8 nor 9
pub small_fine : (size depth : ℕ) (d : DcQuant) (a : AcQuant) (tokens : List ℤ) → bad_depth depth ≡ false → bad_quantizers d a ≡ false → SmallTokens tokens
    → 0 ≡ token_answer size d a depth tokens
unfolding token_answer bad_coefficient dequant_all
small_fine size depth d a tokens hd hq s =
    let eight = all_within (codeable depth) (length tokens) tokens (λ k l. NatL.le_trans (s.small k l) (by_depth (λ e. 16384 ≤ codeable e) (omega arith) (omega arith) (omega arith) depth hd)) in
    let nine = all_within COEF_LIMIT (length tokens) (dequant_all size d a tokens)
    (λ k l. let t = get_or tokens k (pos 0) in
    let q = quantizer_at d a k in
    let fine = place_fine d a hq k in
    rw (get_d_tabulate (λ k. dequant size (quantizer_at d a k) (get_or tokens k (pos 0))) (length tokens) k (pos 0) l, dequant_abs size q t fine)
    (NatL.le_trans (NatL.div-le_self (nat_abs t * nat_abs q) (dq_denom size)) (NatL.le_trans (NatL.mul-le-mul (s.small k l) (quantizer q fine).most) (omega arith)))) in
    rw (eight, nine)

-- the two answers from the one scan
pub nine : (a b : Bool) → a || b ≡ true → a ≡ false → b ≡ true
nine true b h e = cc
nine false b h e = h

pub none : (a b : Bool) → a || b ≡ false → (a ≡ false) × (b ≡ false)
none true b h = (h, cc)
none false b h = (refl, h)
