-- One bit's change: as the machine makes it, and on a block whose one number is replaced.
use mathlib.Core.Path.{◌≡◌, refl, sym, ap, ◌∙◌}
use mathlib.Core.Bool.{Bool, true, false, cond}
use mathlib.Core.List.{List}
use Prim.Native.Nat.{ℕ, zero, suc, ◌+◌, ◌-◌, ◌*◌, ◌/◌, ◌^◌, ◌≤◌, ◌<◌}
use native.Mathlib.Nat as NatL
use native.Mathlib.Decide.{ℕ_discrete}
use native.Mathlib.Omega.{arith}
use lib.Arith.{digits_div}
use lib.Bits.{bit_and, bit_or}
use lib.Dec.{ltb, eqb}
use lib.IntN.{ℤ, pos, nat_abs}
use lib.ListN.{get_or, set}
use lib.Seq.{get_or-set_other}
use Rattle.whole.specs.Tests.{any_below}
use Rattle.blocks.specs.Block.{live}
use Rattle.summary.specs.Summary.{mask, is_set, live_rows, summary_of}
use Rattle.summary.specs.Replace.{with_bit, renewed}
use Rattle.summary.proofs.Digits.{upd, upd_here, upd_other, or_set, and_clear, as_digits}
use Rattle.summary.proofs.Places.{row_below}
use Rattle.summary.proofs.Rows.{mask_digits, mask_set, mask_past, those_ext, those_stop}

-- m | (1 << i), m & !(1 << i)
pub with_set : (m i : ℕ) → m < 2 ^ 32 → i < 32 → bit_or m (2 ^ i) ≡ with_bit m i true
unfolding with_bit
with_set m i h l =
    sym (mask_digits (upd (is_set m) i true) 32 ∙ sym (rw (NatL.zero-add i, as_digits 32 m h) at (or_set (is_set m) 0 32 i l)))

pub with_clear : (m i : ℕ) → m < 2 ^ 32 → i < 32 → bit_and m (4294967295 - 2 ^ i) ≡ with_bit m i false
unfolding with_bit
with_clear m i h l =
    sym (mask_digits (upd (is_set m) i false) 32 ∙ sym (rw (NatL.zero-add i, as_digits 32 m h) at (and_clear (is_set m) 0 32 i l)))

-- ---- a number replaced: the rows that it is not in are as they were
any_ext : (p q : ℕ → Bool) (n : ℕ) → ((j : ℕ) → j < n → p j ≡ q j) → any_below p n ≡ any_below q n
unfolding any_below
any_ext p q zero h = refl
any_ext p q (suc n) h = rw (h n (omega arith), any_ext p q n (λ j l. h j (omega arith)))

other_row : (n0 place : ℕ) (s : List ℤ) (v : ℤ) (r : ℕ) → (r ≡ place / n0 → ⊥) → live (r * n0) n0 (set s place v) ≡ live (r * n0) n0 s
unfolding live
other_row n0 place s v r ne =
    any_ext (λ k. ltb 0 (nat_abs (get_or (set s place v) (r * n0 + k) (pos 0)))) (λ k. ltb 0 (nat_abs (get_or s (r * n0 + k) (pos 0)))) n0
    (λ k h. ap (λ (z : ℤ). ltb 0 (nat_abs z))
    (get_or-set_other s place (r * n0 + k) v (pos 0) (λ e. ne (sym (digits_div r h) ∙ ap (λ (x : ℕ). x / n0) e))))

-- STILL OWN: if the summary was the block's own, then after the replacement it is the new block's, worked out afresh
pub still_own : (n0 place : ℕ) (s : List ℤ) (v : ℤ) (m : ℕ) → 1 ≤ n0 → n0 ≤ 32 → place < n0 * n0 → m ≡ summary_of n0 s
    → renewed n0 place (set s place v) m ≡ summary_of n0 (set s place v)
unfolding renewed with_bit summary_of live_rows
still_own n0 place s v m l h q e =
    ap mask (rw size at (those_stop bits n0 (32 - n0) past) ∙ those_ext bits after n0 (λ k d. go k d (ℕ_discrete k r)))
  where
    r : ℕ
    r = place / n0

    after : ℕ → Bool
    after = λ i. live (i * n0) n0 (set s place v)

    bits : ℕ → Bool
    bits = λ k. cond (eqb k r) (after r) (is_set m k)

    size : (32 - n0) + n0 ≡ 32
    size = omega arith

    own : (k : ℕ) → k < n0 → is_set m k ≡ live (k * n0) n0 s
    own k d = rw e (mask_set (λ i. live (i * n0) n0 s) n0 k d)

    past : (k : ℕ) → n0 ≤ k → bits k ≡ false
    past k d =
        let b = row_below n0 place l q in
        upd_other (is_set m) r (after r) k (λ w. absurd (omega arith)) ∙ rw e (mask_past (λ i. live (i * n0) n0 s) n0 k d)

    go : (k : ℕ) → k < n0 → Dec (k ≡ r) → bits k ≡ after k
    go k d (yes w) = rw w (upd_here (is_set m) r (after r))
    go k d (no w) = upd_other (is_set m) r (after r) k w ∙ own k d ∙ sym (other_row n0 place s v k w)
