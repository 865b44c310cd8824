-- Laws of decimal numbers: one digit, one digit more, how many.
use mathlib.Core.Path.{◌≡◌, refl, sym, ap, ◌∙◌}
use mathlib.Core.Bool.{Bool, true, false, cond}
use mathlib.Core.List.{List, [], ◌∷◌, ◌++◌}
use Prim.Native.Nat.{ℕ, zero, suc, ◌+◌, ◌/◌, ◌%◌, ◌≤◌, ◌<◌}
use native.Mathlib.Omega.{arith}
use borrow.Author.Tests.{lt-ltb, le-ltb, ltb-false}
use lib.Dec.{ltb}
use Rattle.vbk_text.specs.Decimal.{decimal_in, decimal}

-- enough steps are as good as more
by_size : (b : Bool) (x y z : List ℕ) → (b ≡ false → y ≡ z) → cond b x y ≡ cond b x z
by_size true x y z f = refl
by_size false x y z f = f refl

enough : (k m n : ℕ) → n ≤ k → n ≤ m → decimal_in k n ≡ decimal_in m n
enough zero zero n p q = refl
enough zero (suc m) n p q = sym (rw (lt-ltb n 10 (omega arith)))
enough (suc k) zero n p q = rw (lt-ltb n 10 (omega arith))
enough (suc k) (suc m) n p q =
    by_size (ltb n 10) _ _ _ (λ f.
    let h : 10 ≤ n = ltb-false n 10 f in
    ap (λ (l : List ℕ). l ++ ((48 + n % 10) ∷ [])) (enough k m (n / 10) (omega arith) (omega arith)))

pub decimal_one : (n : ℕ) → n < 10 → decimal n ≡ (48 + n) ∷ []
unfolding decimal
decimal_one n h = enough n (suc n) n (omega arith) (omega arith) ∙ rw (lt-ltb n 10 h)

pub decimal_more : (n : ℕ) → 10 ≤ n → decimal n ≡ decimal (n / 10) ++ ((48 + n % 10) ∷ [])
unfolding decimal
decimal_more n h =
    enough n (suc n) n (omega arith) (omega arith) ∙ rw (le-ltb n 10 h)
    (ap (λ (l : List ℕ). l ++ ((48 + n % 10) ∷ [])) (enough n (n / 10) (n / 10) (omega arith) (omega arith)))

-- the digits as the code has them
pub digit_one : (n d : ℕ) → n < 10 → d ≡ 48 + n → decimal n ≡ d ∷ []
digit_one n d h e = decimal_one n h ∙ ap (λ (x : ℕ). x ∷ []) (sym e)

pub digit_more : (n d : ℕ) → 10 ≤ n → d ≡ 48 + n % 10 → decimal n ≡ decimal (n / 10) ++ (d ∷ [])
digit_more n d h e = decimal_more n h ∙ ap (λ (x : ℕ). decimal (n / 10) ++ (x ∷ [])) (sym e)
