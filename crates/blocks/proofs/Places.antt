-- Where the numbers of a row and of a column stand, and that a place has one row and one column.
use mathlib.Core.Path.{◌≡◌, sym, ap, ◌∙◌}
use mathlib.Core.Logic.{◌⊎◌, inl, inr, ⊎_elim}
use Prim.Native.Nat.{ℕ, zero, suc, ◌+◌, ◌*◌, ◌/◌, ◌%◌, ◌≤◌, ◌<◌}
use native.Mathlib.Nat.{mul-one, add_comm, lt_of_lt_of_le, div-add-mod', mod-lt, div-lt_iff_lt-mul}
use native.Mathlib.Omega.{arith}
use lib.Arith.{digits_lt, digits_div, digits_mod}

pub in_row : (n0 i k L : ℕ) → i < n0 → k < n0 → n0 * n0 ≤ L → i * n0 + k * 1 < L
in_row n0 i k L hi hk h = rw (mul-one k) (lt_of_lt_of_le (digits_lt hi hk) h)

pub in_column : (n0 j k L : ℕ) → j < n0 → k < n0 → n0 * n0 ≤ L → j + k * n0 < L
in_column n0 j k L hj hk h = rw add_comm (lt_of_lt_of_le (digits_lt hk hj) h)

-- a number is one pair of digits
digits : (n0 i j k l : ℕ) → k < n0 → l < n0 → i * n0 + k ≡ j * n0 + l → (i ≡ j) × (k ≡ l)
digits n0 i j k l hk hl e =
    (sym (digits_div i hk) ∙ ap (λ (x : ℕ). x / n0) e ∙ digits_div j hl, sym (digits_mod i hk) ∙ ap (λ (x : ℕ). x % n0) e ∙ digits_mod j hl)

pub rows_apart : (n0 i j k l : ℕ) → i < n0 → j < n0 → k < n0 → l < n0 → i * n0 + k * 1 ≡ j * n0 + l * 1 → (i ≡ j) × (k ≡ l)
rows_apart n0 i j k l hi hj hk hl e = digits n0 i j k l hk hl (simp mul-one at e)

pub columns_apart : (n0 i j k l : ℕ) → i < n0 → j < n0 → k < n0 → l < n0 → i + k * n0 ≡ j + l * n0 → (i ≡ j) × (k ≡ l)
columns_apart n0 i j k l hi hj hk hl e = let d = digits n0 k l i j hi hj (add_comm (k * n0) i ∙ e ∙ add_comm j (l * n0)) in (d.1, d.0)

pub le_or_lt : (a b : ℕ) → (a ≤ b) ⊎ (b < a)
le_or_lt zero b = inl (omega arith)
le_or_lt (suc a) zero = inr (omega arith)
le_or_lt (suc a) (suc b) = ⊎_elim (λ (h : a ≤ b). inl (omega arith)) (λ (h : b < a). inr (omega arith)) (le_or_lt a b)

positive : (n p : ℕ) → p < n * n → 0 < n
positive zero p h = absurd (omega arith)
positive (suc n) p h = omega arith

-- every place of the block is one of a row and a column
pub by_place : (n0 : ℕ) (Q : ℕ → Type 0) → ((i j : ℕ) → i < n0 → j < n0 → Q (i * n0 + j)) → (p : ℕ) → p < n0 * n0 → Q p
by_place n0 Q f p h =
    let some : 0 < n0 = positive n0 p h in
    rw (div-add-mod' p n0) at (f (p / n0) (p % n0) ((div-lt_iff_lt-mul some).1 h) (mod-lt p some))
